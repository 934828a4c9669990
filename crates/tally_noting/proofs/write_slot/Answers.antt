-- `tally_noting::write_slot`: the answers to its goals. Assumes nothing.
use Rattle.std.proofs.Common.{◌≡◌, ℕ, ◌∙◌, ap, arith}
use Rattle.floats.specs.Lists.{upto, spliced}
use Rattle.floats.specs.Splice.{splicing_none, splicing_more}
use Rattle.tally_words.specs.Words.{job_words}
use Rattle.tally_slot.specs.Slots.{slot_after}
use Rattle.tally_slot.specs.SlotLaws.{slot_value, slot_fits}
use Rattle.tally_noting.proofs.write_slot.Goals as goal

pub loop-k-init : goal.loop-k-init
loop-k-init c = splicing_none

pub new_word-requires : goal.new_word-requires
new_word-requires c = slot_fits c.loop-k.invariant (omega arith) _ _ _ c.old_word.ensures c.requires.1 (omega arith)

pub loop-k-preserved : goal.loop-k-preserved
loop-k-preserved c =
    splicing_more c.loop-k.invariant (omega arith) (slot_value c.loop-k.invariant (omega arith) _ _ _ _ _ c.new_word.ensures c.old_word.ensures)

pub returns : goal.returns
returns c =
    let e : c.loop-k.k ≡ job_words = omega arith in
    c.loop-k.invariant.is
    ∙ ap (λ (k : ℕ). spliced c.args.tally.now c.args.start (upto (slot_after c.args.tally.now c.args.start c.args.known c.args.job c.args.c) k)) e
