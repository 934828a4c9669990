-- `bspline_owner::greville`: the answers to its goals. Assumes nothing.
use native.Mathlib.Omega.{arith}
use Rattle.bspline_tables.specs.Tables.{greville_at}
use Rattle.bspline_tables.specs.Spans.{whole_in}
use Rattle.bspline_owner.proofs.greville.Goals as goal

pub int_to_float-result : goal.int_to_float-result
int_to_float-result c = whole_in _ (omega arith)

pub returns : goal.returns
unfolding greville_at
returns c = rw c.sum_knots.ensures
