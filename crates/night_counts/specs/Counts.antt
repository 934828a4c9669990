-- DEFINITIONS. How many jobs of a night have a bit in their mark: rule 11.13. Assumes nothing.
use Rattle.std.specs.Prelude.{ℕ, List, get_or}
use Rattle.row_cells.specs.Bits.{has}
use Rattle.tally_words.specs.Words.{count_if}

-- 11.13: how many of the first n jobs have bit b in their mark
unfoldable pub count_with : List ℕ → ℕ → ℕ → ℕ
count_with marks n b = count_if (λ (i : ℕ). has (get_or marks i 0) b) n
