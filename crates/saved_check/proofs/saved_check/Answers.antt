-- `saved_check::saved_check`: the answers to its goals. Assumes nothing.
use Rattle.std.proofs.Common.{sym, ◌∙◌, arith}
use Rattle.saved_state.specs.StateLaws.{good, good-few}
use Rattle.saved_check.proofs.saved_check.Goals as goal

pub bounds-state-61 : goal.bounds-state-61
bounds-state-61 c = omega (arith, (good _ (sym c.state_ok.ensures ∙ c.if-not-state_ok.false)).long)

pub overflow_mul-n : goal.overflow_mul-n
overflow_mul-n c = omega (arith, good-few _ (good _ (sym c.state_ok.ensures ∙ c.if-not-state_ok.false)))

pub held_rows_ok-requires : goal.held_rows_ok-requires
held_rows_ok-requires c = ((good _ (sym c.state_ok.ensures ∙ c.if-not-state_ok.false)).long, c.if-store-n.false)
