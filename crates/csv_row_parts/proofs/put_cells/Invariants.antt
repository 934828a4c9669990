-- `csv_row_parts::put_cells`: what holds at each turn of its loops. Assumes nothing.
use Prim.Native.Nat.{ℕ, ◌-◌, ◌≤◌}
use mathlib.Core.List.{◌∷◌}
use Rattle.csv_write.specs.Writer.{cell_text, cell_shown}
use Rattle.csv_line.specs.LineText.{comma, column_count}
use Rattle.csv_write.specs.Writing.{Putting}
use Rattle.csv_row_parts.proofs.put_cells.Given as goal

abbrev pub invariant-loop-i : goal.invariant-loop-i
invariant-loop-i l = (l.i ≤ column_count) × Putting (cell_shown l.row) (λ (k : ℕ). comma ∷ cell_text l.row k) 18 l.initial.out l.n l.i l.out l.at

abbrev pub decreases-loop-i : goal.decreases-loop-i
decreases-loop-i l = column_count - l.i
