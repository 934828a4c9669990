-- `spline_adding::is_new`: the answers to its goals. Assumes nothing.
use mathlib.Core.Path.{sym, ap, ◌∙◌}
use mathlib.Core.Bool.{not}
use Rattle.spline_channels.proofs.ChannelLaws.{not_new, maybe_new}
use Rattle.spline_adding.proofs.is_new.Goals as goal

pub returns-then-programs : goal.returns-then-programs
returns-then-programs c = ap not c.is_listed.ensures ∙ maybe_new _ _ _ (sym c.programs.ensures ∙ c.if-programs.true)

pub returns-else-programs : goal.returns-else-programs
returns-else-programs c = c.if-programs.false ∙ not_new _ _ _ (sym c.programs.ensures ∙ c.if-programs.false)
