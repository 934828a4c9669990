-- `night_begin::first_course`: the answers to its goals. Assumes nothing.
use mathlib.Core.Path.{◌∙◌, sym}
use borrow.Author.Tests.{eq-eqb}
use Rattle.floats.specs.Truth.{cond-t}
use Rattle.night_begin.specs.Begin.{first_course}
use Rattle.night_begin.proofs.Starting.{first_bad}
use Rattle.night_begin.proofs.first_course.Goals as goal

pub returns-then-code-eq0 : goal.returns-then-code-eq0
unfolding first_course
returns-then-code-eq0 c =
    let at-if1 = c in
    c.fresh.ensures ∙ sym (cond-t _ _ (eq-eqb _ _ at-if1.if-code-eq0.true))

pub returns : goal.returns
returns c =
    let at-fresh2 = c in
    let at-if1 = at-fresh2 in
    first_bad at-if1.if-code-eq0.false at-fresh2.fresh-2.ensures c.turned_down.ensures
