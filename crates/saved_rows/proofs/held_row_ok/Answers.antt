-- `saved_rows::held_row_ok`: the answer to a goal. Assumes nothing.
use Rattle.std.proofs.Common.{◌∙◌, ap}
use Rattle.saved_state.specs.State.{row_fits, held_row_ok}
use Rattle.saved_state.specs.Walk.{part-row}
use Rattle.saved_rows.proofs.held_row_ok.Goals as goal

pub returns : goal.returns
unfolding held_row_ok
returns c = c.row_fits.ensures ∙ ap (row_fits _) (part-row c.args.store.now c.args.i)
