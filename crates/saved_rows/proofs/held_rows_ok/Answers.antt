-- `saved_rows::held_rows_ok`: the answers to its goals. Assumes nothing.
use Rattle.std.proofs.Common.{refl, sym, ◌∙◌}
use Rattle.floats.specs.Truth.{all_more, all-fails}
use Rattle.floats.specs.Lists.{all}
use Rattle.saved_state.specs.State.{held_row_ok}
use Rattle.saved_rows.proofs.held_rows_ok.Goals as goal

pub loop-i-init : goal.loop-i-init
unfolding all
loop-i-init c = refl

pub returns-then-not-held_row_ok : goal.returns-then-not-held_row_ok
returns-then-not-held_row_ok c =
    sym (all-fails _ (held_row_ok _ _) c.loop-i.i c.loop-i-test.true (sym c.held_row_ok.ensures ∙ c.if-not-held_row_ok.true))

pub loop-i-preserved : goal.loop-i-preserved
loop-i-preserved c = all_more c.loop-i.i (held_row_ok _ _) c.loop-i.invariant (sym c.held_row_ok.ensures ∙ c.if-not-held_row_ok.false)
