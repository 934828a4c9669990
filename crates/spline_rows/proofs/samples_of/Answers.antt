-- `spline_rows::samples_of`: the answers to its goals. Assumes nothing.
use Rattle.spline_rows.proofs.Leaves.{samples-point, samples-none}
use Rattle.spline_rows.proofs.samples_of.Goals as goal

pub returns-then-point : goal.returns-then-point
returns-then-point c = samples-point _ _ _ c.if-point.true

pub returns-else-point : goal.returns-else-point
returns-else-point c = samples-none _ _ _ c.if-point.false
