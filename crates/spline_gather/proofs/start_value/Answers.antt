-- `spline_gather::start_value`: the answers to its goals. Assumes nothing.
use mathlib.Core.Path.{sym, ◌∙◌}
use Rattle.spline_points.specs.Curve.{start-yes, start-no}
use Rattle.spline_gather.proofs.start_value.Goals as goal

pub returns-then-has_bit : goal.returns-then-has_bit
returns-then-has_bit c = c.of_bits.ensures ∙ start-yes _ _ _ _ (sym c.has_bit.ensures ∙ c.if-has_bit.true)

pub returns : goal.returns
returns c = c.first_value.ensures ∙ start-no _ _ _ _ (sym c.has_bit.ensures ∙ c.if-has_bit.false)
