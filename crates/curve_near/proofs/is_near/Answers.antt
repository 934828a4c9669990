-- `curve_near::is_near`: the answers to its goals. Assumes nothing.
use mathlib.Core.Path.{◌∙◌}
use Rattle.curve_near.proofs.Sums.{near-is}
use Rattle.curve_near.proofs.is_near.Goals as goal

pub returns : goal.returns
returns c = c.root_at_most.ensures ∙ near-is _ _ _ _ _ c.deviation2.ensures
