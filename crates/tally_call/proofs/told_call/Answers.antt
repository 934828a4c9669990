-- `tally_call::told_call`: the answers to its goals. Assumes nothing.
use Rattle.std.proofs.Common.{◌∙◌, sym, arith}
use Rattle.std.proofs.lemmas.Bool.Decides.{nat_tests}
use Rattle.tally_call.specs.Calls.{told_ok}
use Rattle.tally_call.specs.Told.{told_call}
use Rattle.tally_call.specs.CallLaws.{told-turned, told_bad, told_is}
use Rattle.tally_call.proofs.told_call.Goals as goal

pub returns-then-kind-gt-K_CLOSE : goal.returns-then-kind-gt-K_CLOSE
unfolding told_call told_ok
returns-then-kind-gt-K_CLOSE c = grind (arith, nat_tests)

pub returns-in_err-marked : goal.returns-in_err-marked
returns-in_err-marked c =
    c.from_residual.ensures
    ∙ told_bad _ _ _ _ _ c.if-kind-gt-K_CLOSE.false c.if-code.false c.if-warning.false c.if-code-eq0.true (sym c.in_err-marked.was ∙ c.lent_marks.ensures)

pub returns-in_ok-marked : goal.returns-in_ok-marked
returns-in_ok-marked c =
    told_is _ _ _ _ _ c.if-kind-gt-K_CLOSE.false c.if-code.false c.if-warning.false c.if-code-eq0.true _ (sym c.in_ok-marked.was ∙ c.lent_marks.ensures)

pub returns-else-code-eq0 : goal.returns-else-code-eq0
returns-else-code-eq0 c = told-turned _ _ _ _ _ c.if-kind-gt-K_CLOSE.false c.if-code.false c.if-warning.false c.if-code-eq0.false
