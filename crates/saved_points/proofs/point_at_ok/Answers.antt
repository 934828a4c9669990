-- `saved_points::point_at_ok`: the answers to its goals. Assumes nothing.
use Rattle.std.proofs.Common.{sym, ◌∙◌}
use Rattle.floats.specs.Truth.{and_t, and_f}
use Rattle.saved_points.proofs.Points.{point-there}
use Rattle.saved_points.proofs.point_at_ok.Goals as goal

pub returns-then-has_bit : goal.returns-then-has_bit
returns-then-has_bit c =
    c.within_range.ensures ∙ sym (point-there _ _ _ _ c.requires.0 c.requires.1.0 ∙ and_t _ (sym c.has_bit.ensures ∙ c.if-has_bit.true))

pub returns-else-has_bit : goal.returns-else-has_bit
returns-else-has_bit c = c.if-has_bit.false ∙ sym (point-there _ _ _ _ c.requires.0 c.requires.1.0 ∙ and_f _ (sym c.has_bit.ensures ∙ c.if-has_bit.false))
