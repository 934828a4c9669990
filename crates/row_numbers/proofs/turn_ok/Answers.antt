-- `row_numbers::turn_ok`: the answers to its goals. Assumes nothing.
use mathlib.Core.Path.{sym, ap, ◌∙◌}
use mathlib.Core.Bool.{not}
use Rattle.floats.specs.Truth.{or_t, or_f}
use Rattle.row_numbers.specs.RowNumbers.{turn_ok}
use Rattle.row_numbers.proofs.turn_ok.Goals as goal

pub returns-then-has_bit : goal.returns-then-has_bit
unfolding turn_ok
returns-then-has_bit c = ap not c.is_above_1000.ensures ∙ sym (or_f _ (ap not (sym c.has_bit.ensures ∙ c.if-has_bit.true)))

pub returns-else-has_bit : goal.returns-else-has_bit
unfolding turn_ok
returns-else-has_bit c = sym (or_t _ (ap not (sym c.has_bit.ensures ∙ c.if-has_bit.false)))
