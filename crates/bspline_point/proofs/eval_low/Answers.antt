-- `bspline_point::eval_low`: the answers to its goals. Assumes nothing.
use native.Mathlib.Omega.{arith}
use Rattle.bspline_point.proofs.Straight.{low-is, low-three, low-four}
use Rattle.bspline_point.proofs.eval_low.Goals as goal

pub returns-then-p-eq4 : goal.returns-then-p-eq4
returns-then-p-eq4 c =
    let span = c.span_of-k.ensures in
    low-four _ _ _ _ _ _ _ c.requires.curve (omega arith) c.held_in-u.ensures span.value span.lower_bound.0 span.lower_bound.1
    c.fourth_in.ensures c.project_four.ensures

pub returns-then-p-eq3 : goal.returns-then-p-eq3
returns-then-p-eq3 c =
    let span = c.span_of-k.ensures in
    low-three _ _ _ _ _ _ _ c.requires.curve (omega arith) c.held_in-u.ensures span.value span.lower_bound.0 span.lower_bound.1
    c.shares_in-s.ensures c.project_three.ensures

pub returns : goal.returns
returns c =
    let span = c.span_of-k.ensures in
    low-is _ _ _ _ _ _ _ c.requires.curve (omega arith) c.held_in-u.ensures span.value span.lower_bound.0 span.lower_bound.1
    c.shares_in-s.ensures c.project_tops.ensures
