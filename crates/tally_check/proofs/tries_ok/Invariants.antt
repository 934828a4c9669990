-- `tally_check::tries_ok`: what holds at each turn of its loop. Assumes nothing.
use Rattle.std.proofs.Common.{◌≡◌, ℕ, true}
use Rattle.floats.specs.Lists.{all}
use Rattle.tally_words.specs.Words.{try_ok, try_at}
use Rattle.tally_check.proofs.tries_ok.Given as goal

abbrev pub invariant-loop-i : goal.invariant-loop-i
invariant-loop-i l = all l.i (λ (i : ℕ). try_ok (try_at l.tally i)) ≡ true
