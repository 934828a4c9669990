-- `bspline_tables::fill_knots`: the answers to its goals. Assumes nothing.
use native.Mathlib.Omega.{arith}
use Rattle.floats.specs.Fill.{filling-none, filling-more}
use Rattle.bspline_tables.proofs.fill_knots.Goals as goal

pub loop-i-init : goal.loop-i-init
loop-i-init c = filling-none

pub loop-i-preserved : goal.loop-i-preserved
loop-i-preserved c = filling-more c.loop-i.invariant (omega arith) c.knot.ensures
