-- `bspline_owner::sum_knots`: the answers to its goals. Assumes nothing.
use native.Mathlib.Omega.{arith}
use Rattle.bspline_owner.proofs.Steps.{sum-none, sum_more}
use Rattle.bspline_owner.proofs.sum_knots.Goals as goal

pub loop-knot-init : goal.loop-knot-init
loop-knot-init c = sum-none _ _

pub loop-knot-preserved : goal.loop-knot-preserved
loop-knot-preserved c = sum_more _ _ _ _ (omega arith) c.loop-knot.invariant
