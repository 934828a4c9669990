-- DEFINITIONS. Whether a try passed, by its job's tally behind it: rule 11.11. Assumes nothing.
use Rattle.std.specs.Prelude.{ℕ, ◌+◌, Bool, false, cond, List, get_or}
use Rattle.row_cells.specs.Bits.{has}
use Rattle.tally_words.specs.Words.{w_slots, w_try, b_final}

-- 11.11: a try passed where it was closed and, by its tally, the last try closed passed
unfoldable pub passed_of : Bool → List ℕ → Bool
passed_of closed after = cond closed (has (get_or after (w_slots + w_try) 0) b_final) false
