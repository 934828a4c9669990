-- `tally_slot::find`: the answers to its goals. Assumes nothing.
use Rattle.std.proofs.Common.{◌≡◌, ℕ, ◌<◌, false, sym, subst, arith}
use Rattle.tally_slot.specs.Slots.{is_job}
use Rattle.tally_slot.specs.SlotLaws.{seek-none, seek_is, job-hit, job-miss, below_next}
use Rattle.tally_slot.proofs.find.Goals as goal

pub loop-i-init : goal.loop-i-init
loop-i-init c = λ k h. absurd (omega arith)

pub returns-then-tally-slot_at : goal.returns-then-tally-slot_at
returns-then-tally-slot_at c =
    sym (seek_is _ _ _ c.loop-i.invariant c.loop-i-test.true (job-hit _ _ _ _ c.slot_at.ensures c.if-tally-slot_at.true))

pub loop-i-preserved : goal.loop-i-preserved
loop-i-preserved c = below_next _ _ c.loop-i.invariant (job-miss _ _ _ _ c.slot_at.ensures c.if-tally-slot_at.false)

pub returns : goal.returns
returns c =
    let e : c.loop-i.i ≡ c.args.n = omega arith in
    sym (seek-none _ _ (subst (λ (m : ℕ). (k : ℕ) → k < m → is_job c.args.tally.now c.args.job k ≡ false) e c.loop-i.invariant))
