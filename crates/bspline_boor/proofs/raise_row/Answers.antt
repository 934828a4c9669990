-- `bspline_boor::raise_row`: the answers to its goals. Assumes nothing.
use mathlib.Core.Path.{refl}
use native.Mathlib.Omega.{arith}
use Rattle.bspline_boor.proofs.Climbing.{raised_join, raised_end}
use Rattle.bspline_boor.proofs.raise_row.Goals as goal

pub returns-then-wide-lt-TWO_FOURS : goal.returns-then-wide-lt-TWO_FOURS
returns-then-wide-lt-TWO_FOURS c =
    let at1 = c in
    let pre = at1.requires in
    raised_end (omega (arith, pre.width.fours, c.if-wide-lt-TWO_FOURS.true, pre.width.some))
    at1.raise_four.ensures

pub returns-then-wide-lt-THREE_FOURS : goal.returns-then-wide-lt-THREE_FOURS
returns-then-wide-lt-THREE_FOURS c =
    let at2 = c in
    let at1 = at2 in
    let pre = at1.requires in
    raised_end (omega (arith, pre.width.fours, c.if-wide-lt-THREE_FOURS.true, at2.if-wide-lt-TWO_FOURS.false))
    (raised_join at1.raise_four.ensures refl at2.raise_four-2.ensures)

pub returns-then-wide-lt-FOUR_FOURS : goal.returns-then-wide-lt-FOUR_FOURS
returns-then-wide-lt-FOUR_FOURS c =
    let at3 = c in
    let at2 = at3 in
    let at1 = at2 in
    let pre = at1.requires in
    raised_end (omega (arith, pre.width.fours, c.if-wide-lt-FOUR_FOURS.true, at3.if-wide-lt-THREE_FOURS.false))
    (raised_join (raised_join at1.raise_four.ensures refl at2.raise_four-2.ensures) refl at3.raise_four-3.ensures)

pub returns-then-wide-lt-MOST_WIDE : goal.returns-then-wide-lt-MOST_WIDE
returns-then-wide-lt-MOST_WIDE c =
    let at4 = c in
    let at3 = at4 in
    let at2 = at3 in
    let at1 = at2 in
    let pre = at1.requires in
    raised_end (omega (arith, pre.width.fours, c.if-wide-lt-MOST_WIDE.true, at4.if-wide-lt-FOUR_FOURS.false))
    (raised_join (raised_join (raised_join at1.raise_four.ensures refl at2.raise_four-2.ensures) refl at3.raise_four-3.ensures) refl
    at4.raise_four-4.ensures)

pub returns : goal.returns
returns c =
    let at5 = c in
    let at4 = at5 in
    let at3 = at4 in
    let at2 = at3 in
    let at1 = at2 in
    let pre = at1.requires in
    raised_end (omega (arith, pre.width.fours, pre.width.few, at5.if-wide-lt-MOST_WIDE.false))
    (raised_join (raised_join (raised_join (raised_join at1.raise_four.ensures refl at2.raise_four-2.ensures) refl at3.raise_four-3.ensures) refl
    at4.raise_four-4.ensures) refl at5.raise_four-5.ensures)
