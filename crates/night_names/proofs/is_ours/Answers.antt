-- `night_names::is_ours`: the answers to its goals. Assumes nothing.
use mathlib.Core.Path.{sym, ◌∙◌}
use Rattle.night_names.proofs.Naming.{is-part, is-named}
use Rattle.night_names.proofs.is_ours.Goals as goal

pub returns-then-ends_in : goal.returns-then-ends_in
returns-then-ends_in c = is-part _ (sym c.ends_in.ensures ∙ c.if-ends_in.true)

pub returns : goal.returns
returns c = is-named _ _ _ (sym c.ends_in.ensures ∙ c.if-ends_in.false) c.name_of-from.ensures.0 c.is_our_name.ensures
