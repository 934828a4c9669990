-- `tally_check::tries_ok`: the answers to its goals. Assumes nothing.
use Rattle.std.proofs.Common.{refl, sym, ◌∙◌, ap}
use Rattle.floats.specs.Truth.{all_more, all-fails}
use Rattle.floats.specs.Lists.{all}
use Rattle.tally_words.specs.Words.{try_ok}
use Rattle.tally_check.proofs.tries_ok.Goals as goal

pub loop-i-init : goal.loop-i-init
unfolding all
loop-i-init c = refl

pub returns-then-not-try_ok : goal.returns-then-not-try_ok
returns-then-not-try_ok c =
    sym (all-fails _ _ c.loop-i.i c.loop-i-test.true (ap try_ok (sym c.try_at.ensures) ∙ sym c.try_ok.ensures ∙ c.if-not-try_ok.true))

pub loop-i-preserved : goal.loop-i-preserved
loop-i-preserved c = all_more c.loop-i.i _ c.loop-i.invariant (ap try_ok (sym c.try_at.ensures) ∙ sym c.try_ok.ensures ∙ c.if-not-try_ok.false)
