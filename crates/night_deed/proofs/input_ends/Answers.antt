-- `night_deed::input_ends`: the answers to its goals. Assumes nothing.
use mathlib.Core.Path.{sym, ◌∙◌}
use Rattle.night_deed.proofs.Asking.{ends_bad, ends_well}
use Rattle.night_deed.proofs.input_ends.Goals as goal

pub returns-then-ends_badly : goal.returns-then-ends_badly
returns-then-ends_badly c =
    let at-unread-told = c in
    let at-if1 = at-unread-told in
    let at-ends-badly = at-if1 in
    ends_bad (sym at-ends-badly.ends_badly.ensures ∙ at-if1.if-ends_badly.true) at-unread-told.unread_told.ensures

pub returns : goal.returns
returns c =
    let at-ends-badly = c in
    ends_well (sym at-ends-badly.ends_badly.ensures ∙ c.if-ends_badly.false)
