-- `csv_decimal::scaled`: the answers to its goals. Assumes nothing.
use mathlib.Core.Path.{◌∙◌}
use Rattle.csv_decimal.specs.Near.{in_parts}
use Rattle.csv_decimal.proofs.scaled.Goals as goal

pub returns : goal.returns
returns c = c.half_even.ensures ∙ in_parts _ _ _ c.requires.1.0 c.sticky.ensures
