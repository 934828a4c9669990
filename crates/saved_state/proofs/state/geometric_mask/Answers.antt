-- `saved_state::state::geometric_mask`: the answers to its goals. Assumes nothing.
use mathlib.Core.Path.{◌∙◌}
use Rattle.saved_state.specs.Walk.{part-codes}
use Rattle.saved_state.proofs.Marks.{mask_of_codes}
use Rattle.saved_state.proofs.state.geometric_mask.Goals as goal

pub returns : goal.returns
returns c = c.axes_mask.ensures ∙ mask_of_codes _ _ (part-codes c.args.state.now)
