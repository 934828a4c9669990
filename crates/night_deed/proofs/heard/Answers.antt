-- `night_deed::heard`: the answers to its goals. Assumes nothing.
use mathlib.Core.Path.{sym, ◌∙◌}
use Rattle.night_deed.proofs.Asking.{nothing-heard, call-heard}
use Rattle.night_deed.proofs.heard.Goals as goal

pub returns-then-is_due : goal.returns-then-is_due
returns-then-is_due c =
    let at-call-told = c in
    let at-told-as = at-call-told in
    let at-source-by = at-told-as in
    let at-if1 = at-source-by in
    let at-is-due = at-if1 in
    call-heard _ (sym at-is-due.is_due.ensures ∙ at-if1.if-is_due.true) at-source-by.source_by-source.ensures at-told-as.told_as.ensures
    at-call-told.call_told-then.ensures c.counted_behind.ensures

pub returns : goal.returns
returns c =
    let at-is-due = c in
    let start = at-is-due in
    nothing-heard _ (sym at-is-due.is_due.ensures ∙ c.if-is_due.false) start.requires.sound
