-- `night_listed::put_row`: the answers to its goals. Assumes nothing.
use Rattle.night_listed.proofs.Walking.{seen-word, row_named, row_unnamed}
use Rattle.night_listed.proofs.put_row.Goals as goal

pub put_line-at-requires : goal.put_line-at-requires
put_line-at-requires c =
    let b4 = c in
    let b7 = b4 in
    (b7.requires.room, seen-word b7.requires b4.seen_at-seen.ensures)

pub returns-then-is_named : goal.returns-then-is_named
returns-then-is_named c =
    let b3 = c in
    let b5 = b3 in
    let b6 = b5 in
    let b7 = b6 in
    let b8 = b7 in
    let b11 = b8 in
    row_named b11.requires b8.seen_at-seen.ensures _ _ _ b7.is_named.ensures b6.if-is_named.true b5.word_at-line.ensures b3.put_line-at.ensures

pub returns : goal.returns
returns c =
    let b1 = c in
    let b2 = b1 in
    let b5 = b2 in
    row_unnamed b5.requires b2.seen_at-seen.ensures _ _ _ b1.is_named.ensures c.if-is_named.false
