-- `night_deed::line_asked`: the answers to its goals. Assumes nothing.
use Rattle.night_deed.proofs.Asking.{asked-line, asked-no-line}
use Rattle.night_deed.proofs.line_asked.Goals as goal

pub returns-then-run-eq-GOES : goal.returns-then-run-eq-GOES
returns-then-run-eq-GOES c =
    let at-line-told = c in
    let at-line-is = at-line-told in
    let at-if1 = at-line-is in
    asked-line at-if1.if-run-eq-GOES.true at-line-is.line_is-what.ensures at-line-told.line_told.ensures

pub returns : goal.returns
returns c =
    let at-if1 = c in
    asked-no-line at-if1.if-run-eq-GOES.false c.nothing_due.ensures
