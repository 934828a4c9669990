-- `night_answer::stands_on`: the answers to its goals. Assumes nothing.
use Rattle.night_answer.proofs.Hearing.{ends-closed, goes_on_lem}
use Rattle.night_answer.proofs.stands_on.Goals as goal

pub returns-then-kind-eq-K_CLOSE : goal.returns-then-kind-eq-K_CLOSE
returns-then-kind-eq-K_CLOSE c = ends-closed _ _ c.if-kind-eq-K_CLOSE.true

pub returns : goal.returns
returns c = goes_on_lem _ _ c.if-kind-eq-K_CLOSE.false
