-- CONTRACTS. Columns of absent cells that are written together. Assumes nothing.
use Rattle.std.specs.Prelude.{ℕ, zero, suc, ◌-◌, ◌≤◌, ◌<◌, false, ◌≡◌, List, [], ◌∷◌}
use Rattle.row_cells.specs.Bits.{has}
use Rattle.row_cells.specs.Row.{present_of}
use Rattle.csv_figures.specs.Out.{Wrote}
use Rattle.csv_line.specs.LineText.{comma, column_count, code_at}
use Rattle.csv_write.specs.declared.Passed.{Passed}

-- the columns of I, behind those of the axes, and of F, the last
abbrev pub i_column : ℕ
i_column = 3

abbrev pub f_column : ℕ
f_column = column_count - 1

unfoldable pub commas : ℕ → List ℕ
commas zero = []
commas (suc k) = comma ∷ commas k

-- the columns from i up to r.i are absent, and a comma is stored for each
pub record Skipped (row o : List ℕ) (n i : ℕ) (o' : List ℕ) (r : Passed) : Type 0 where
  pub ahead : i ≤ r.i
  pub below : r.i < column_count
  pub absent : (k : ℕ) → i ≤ k → k < r.i → has (present_of row) (code_at k) ≡ false
  pub wrote : Wrote o n (commas (r.i - i)) o' r.at
