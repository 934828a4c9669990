-- DEFINITIONS. The words of a mask, laid over others. Assumes nothing.
use Rattle.std.specs.Prelude.{ℕ, cond, List, get_or}
use Rattle.row_cells.specs.Bits.{has}

abbrev pub over_word : ℕ → List ℕ → (ℕ → ℕ) → ℕ → ℕ
over_word mask ws f k = cond (has mask k) (get_or ws k 0) (f k)

abbrev pub zeros : ℕ → ℕ
zeros k = 0
