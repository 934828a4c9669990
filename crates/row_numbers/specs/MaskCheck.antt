-- CONTRACTS. Whether the cells of a mask are in range, as a walk over them answers. Assumes nothing.
use Rattle.std.specs.Prelude.{ℕ, Bool, ◌||◌, not, List}
use Rattle.floats.specs.Lists.{all}
use Rattle.layout.specs.Layout.{cells}
use Rattle.row_cells.specs.Bits.{has}
use Rattle.row_cells.specs.Row.{raw_word}
use Rattle.row_numbers.specs.RowNumbers.{within}

-- cell k is in range, if the mask has it
unfoldable pub mask_cell_ok : List ℕ → ℕ → ℕ → Bool
mask_cell_ok r mask k = not (has mask k) || within (raw_word r k)

unfoldable pub mask_ok : List ℕ → ℕ → Bool
mask_ok r mask = all cells (mask_cell_ok r mask)
