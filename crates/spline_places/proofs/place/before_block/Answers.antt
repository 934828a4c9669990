-- `spline_places::place::before_block`: the answers to its goals. Assumes nothing.
use native.Mathlib.Omega.{arith}
use Rattle.spline_places.specs.SizeLaws.{unmoved-plain, unmoved-point, behind-plain, behind-point}
use Rattle.spline_places.proofs.place.before_block.Goals as goal

pub overflow_sub-result : goal.overflow_sub-result
overflow_sub-result c = behind-plain _ _ _ c.if-not-point.true c.requires

pub returns-then-not-point : goal.returns-then-not-point
returns-then-not-point c = unmoved-plain _ _ _ c.if-not-point.true

pub overflow_sub-j : goal.overflow_sub-j
overflow_sub-j c = (behind-point _ _ _ c.if-not-point.false c.requires).some

pub offset_bounds-counts-j : goal.offset_bounds-counts-j
offset_bounds-counts-j c = omega (arith, (behind-point _ _ _ c.if-not-point.false c.requires).known)

pub bounds-counts-j : goal.bounds-counts-j
bounds-counts-j c = (behind-point _ _ _ c.if-not-point.false c.requires).known

pub overflow_sub-result-2 : goal.overflow_sub-result-2
overflow_sub-result-2 c =
    let d = c in
    rw c.size_of.ensures (behind-point _ _ _ d.if-not-point.false d.requires).rows

pub overflow_sub-result-3 : goal.overflow_sub-result-3
overflow_sub-result-3 c =
    let d = c in
    (behind-point _ _ _ d.if-not-point.false d.requires).samples

pub returns : goal.returns
returns c = unmoved-point _ _ _ _ c.if-not-point.false c.size_of.ensures
