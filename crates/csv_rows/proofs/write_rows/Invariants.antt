-- `csv_rows::write_rows`: what holds at each turn of its loops. Assumes nothing.
use Prim.Native.Nat.{ℕ}
use Rattle.csv_write.specs.Writer.{row_room, row_text, writable, row_at}
use Rattle.csv_write.specs.Writing.{Putting}
use Rattle.csv_rows.proofs.write_rows.Given as goal

abbrev pub invariant-loop-i : goal.invariant-loop-i
invariant-loop-i l = Putting (λ (k : ℕ). writable (row_at l.rows k)) (λ (k : ℕ). row_text (row_at l.rows k)) row_room l.initial.out
    l.n l.i l.out l.at
