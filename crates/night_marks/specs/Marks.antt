-- DEFINITIONS. What a night knows of a job by the lines of its tries: rule 11.12. Assumes nothing.
use Rattle.std.specs.Prelude.{ℕ, ◌+◌, ◌*◌, ◌^◌, Bool, true, cond, ◌||◌, leb}
use Rattle.row_cells.specs.Bits.{has, with_bit}
use Rattle.tally_words.specs.Words.{b_closed, b_first, b_final, bit}

-- a mark has the bits of a try word (9.22): a try was closed, the first one closed passed, the last one closed passed
unfoldable pub mark_number : Bool → Bool → Bool → ℕ
mark_number closed first last = 2 ^ b_closed * bit closed + 2 ^ b_first * bit first + 2 ^ b_final * bit last

-- the bit behind them: a try was left without a close
abbrev pub b_left : ℕ
b_left = 3

-- 11.12: a closed try is the last one closed, and the first one where none was; one that was left changes none of the three
unfoldable pub mark_after : ℕ → Bool → Bool → ℕ
mark_after m closed passed = cond closed (mark_number true (cond (has m b_closed) (has m b_first) passed) passed) (with_bit m b_left)

-- a job is done with where its last try passed or was left, or there is no tolerance more
unfoldable pub is_over : ℕ → ℕ → ℕ → Bool
is_over m tries tolerances = has m b_final || (has m b_left || leb tolerances tries)
