-- `picture_place::put_place`: the answers to its goals. Assumes nothing.
use borrow.Author.Tests.{lt-ltb, le-ltb}
use Rattle.csv_figures.specs.OutLaws.{wrote_then}
use Rattle.picture_place.specs.Place.{place_text}
use Rattle.picture_place.proofs.put_place.Goals as goal

pub returns-then-p-lt-ORIGIN : goal.returns-then-p-lt-ORIGIN
unfolding place_text
returns-then-p-lt-ORIGIN c =
    let b3 = c in
    let b7 = b3 in
    let b9 = b7 in
    rw (lt-ltb _ _ b9.if-p-lt-ORIGIN.true, ← b3.within.ensures.0) (wrote_then b7.put_byte-a.ensures c.put_millionths.ensures)

pub returns : goal.returns
unfolding place_text
returns c =
    let b3 = c in
    let b5 = b3 in
    rw (le-ltb _ _ b5.if-p-lt-ORIGIN.false, ← b3.within-2.ensures.0) c.put_millionths-2.ensures
