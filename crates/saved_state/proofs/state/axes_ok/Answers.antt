-- `saved_state::state::axes_ok`: the answer to a goal. Assumes nothing.
use Rattle.std.proofs.Common.{sym, ◌∙◌, ap}
use borrow.Author.Tests.{le-leb}
use Rattle.floats.specs.Truth.{and_t}
use Rattle.saved_state.specs.State.{codes_ok, axes_ok}
use Rattle.saved_state.specs.Walk.{part-codes}
use Rattle.saved_state.proofs.state.axes_ok.Goals as goal

pub returns-then-n : goal.returns-then-n
unfolding axes_ok
returns-then-n c = c.codes_ok.ensures ∙ ap codes_ok (part-codes c.args.state.now) ∙ sym (and_t _ (le-leb _ _ c.if-n.true))
