-- `tally_slot::figures_fit`: the answers to its goals. Assumes nothing.
use Rattle.std.proofs.Common.{◌≡◌, ℕ, true, refl, sym, ◌∙◌, subst, arith}
use Rattle.floats.specs.Truth.{all_more, all-fails}
use Rattle.floats.specs.Lists.{all}
use Rattle.tally_words.specs.Words.{figures}
use Rattle.tally_slot.specs.Slots.{figure_fits}
use Rattle.tally_slot.specs.SlotLaws.{fits-is}
use Rattle.tally_slot.proofs.figures_fit.Goals as goal

pub loop-k-init : goal.loop-k-init
unfolding all
loop-k-init c = refl

pub returns-then-not-sum_fits : goal.returns-then-not-sum_fits
returns-then-not-sum_fits c =
    sym (all-fails _ (figure_fits _ _ _ _) c.loop-k.k c.loop-k-test.true
    (fits-is _ _ _ _ _ _ _ _ c.sum_fits.ensures c.old_word.ensures c.figure_of.ensures ∙ c.if-not-sum_fits.true))

pub loop-k-preserved : goal.loop-k-preserved
loop-k-preserved c =
    all_more c.loop-k.k _ c.loop-k.invariant
    (fits-is _ _ _ _ _ _ _ _ c.sum_fits.ensures c.old_word.ensures c.figure_of.ensures ∙ c.if-not-sum_fits.false)

pub returns : goal.returns
returns c =
    let e : c.loop-k.k ≡ figures = omega arith in
    sym (subst (λ (k : ℕ). all k (figure_fits c.args.tally.now c.args.start c.args.known c.args.c) ≡ true) e c.loop-k.invariant)
