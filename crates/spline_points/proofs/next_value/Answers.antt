-- `spline_points::next_value`: the answers to its goals. Assumes nothing.
use mathlib.Core.Path.{sym, ◌∙◌}
use Rattle.spline_points.specs.Curve.{number-yes, number-no}
use Rattle.spline_points.proofs.next_value.Goals as goal

pub returns-then-has_bit : goal.returns-then-has_bit
returns-then-has_bit c = c.of_bits.ensures ∙ number-yes _ _ _ (sym c.has_bit.ensures ∙ c.if-has_bit.true)

pub returns : goal.returns
returns c = number-no _ _ _ (sym c.has_bit.ensures ∙ c.if-has_bit.false)
