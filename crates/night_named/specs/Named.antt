-- DEFINITIONS. Which rows are further rows of a block, and which row has a call's warning: rules 11.8, 11.9. Assumes nothing.
use Rattle.std.specs.Prelude.{ℕ, zero, suc, ◌+◌, Bool, false, cond, List, eqb}
use Rattle.row_cells.specs.Row.{carry_of}
use Rattle.still_curved.specs.Curved.{row_at}

-- whether row i is a further row of the block of the row before it: a carry stands on the first row of a group only, and each block is pushed
-- with one
unfoldable pub further : List ℕ → ℕ → Bool
further rows zero = false
further rows (suc i) = eqb (carry_of (row_at rows (suc i))) 0

-- a call's warning is of the block that was pushed, which has the last of the rows
unfoldable pub warning_at : ℕ → ℕ → ℕ → ℕ
warning_at count warning i = cond (eqb (i + 1) count) warning 0
