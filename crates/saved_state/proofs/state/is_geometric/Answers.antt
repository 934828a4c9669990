-- `saved_state::state::is_geometric`: the answers to its goals. Assumes nothing.
use Rattle.std.proofs.Common.{ℕ, sym, ◌∙◌, ap}
use borrow.Author.Tests.{le-ltb}
use Rattle.row_cells.specs.Bits.{has}
use Rattle.saved_state.specs.Axes.{beyond, mask-has-axis}
use Rattle.saved_state.proofs.state.is_geometric.Goals as goal

pub returns-then-k : goal.returns-then-k
returns-then-k c = c.has_bit.ensures ∙ ap (λ (m : ℕ). has m c.args.k) c.geometric_mask.ensures ∙ mask-has-axis _ _

pub returns-else-k : goal.returns-else-k
returns-else-k c = le-ltb _ _ c.if-k.false ∙ sym (beyond _ _ c.if-k.false)
