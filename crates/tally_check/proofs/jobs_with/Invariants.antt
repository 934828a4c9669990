-- `tally_check::jobs_with`: what holds at each turn of its loop. Assumes nothing.
use Rattle.std.proofs.Common.{◌≡◌, ℕ}
use Rattle.row_cells.specs.Bits.{has}
use Rattle.tally_words.specs.Words.{try_at, count_if}
use Rattle.tally_check.proofs.jobs_with.Given as goal

abbrev pub invariant-loop-i : goal.invariant-loop-i
invariant-loop-i l = l.r ≡ count_if (λ (i : ℕ). has (try_at l.tally i) l.b) l.i
