-- `spline_places::place::after_block`: the answers to its goals. Assumes nothing.
use lib.ListN.{get_or}
use native.Mathlib.Omega.{arith}
use Rattle.spline_places.specs.SizeLaws.{moved_plain, moved-point, size_most}
use Rattle.spline_places.proofs.place.after_block.Goals as goal

pub returns-then-not-point : goal.returns-then-not-point
returns-then-not-point c = moved_plain _ _ _ c.if-not-point.true

pub overflow_add-result-2 : goal.overflow_add-result-2
overflow_add-result-2 c =
    let d = c in
    let j = d.args.place.points in
    let few = d.requires.points_in_bounds.1.few j in
    omega (arith, d.requires.rows_le_most_rows.0, c.size_of.ensures, (size_most (get_or d.args.counts.now j 0)).1, few)

pub overflow_add-result-3 : goal.overflow_add-result-3
overflow_add-result-3 c =
    let d = c in
    omega (arith, d.requires.rows_le_most_rows.1, d.requires.points_in_bounds.1.few d.args.place.points)

pub returns : goal.returns
returns c = moved-point _ _ _ _ c.if-not-point.false c.size_of.ensures
