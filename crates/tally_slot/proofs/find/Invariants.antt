-- `tally_slot::find`: what holds at each turn of its loop. Assumes nothing.
use Rattle.std.proofs.Common.{◌≡◌, ℕ, ◌<◌, false}
use Rattle.tally_slot.specs.Slots.{is_job}
use Rattle.tally_slot.proofs.find.Given as goal

abbrev pub invariant-loop-i : goal.invariant-loop-i
invariant-loop-i l = (k : ℕ) → k < l.i → is_job l.tally l.job k ≡ false
