-- `spline_points::weight_of`: the answers to its goals. Assumes nothing.
use Rattle.spline_points.specs.Curve.{weight_low, weight_high}
use Rattle.spline_points.proofs.weight_of.Goals as goal

pub returns-then-w : goal.returns-then-w
returns-then-w c = weight_low _ _ c.next_value-w.ensures c.if-w.true

pub returns-else-w : goal.returns-else-w
returns-else-w c = weight_high _ _ c.next_value-w.ensures c.if-w.false
