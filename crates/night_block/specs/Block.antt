-- DEFINITIONS. A line of row text as a block of a night: rule 11.8. Assumes nothing.
use Rattle.std.specs.Prelude.{ℕ, List, set}
use Rattle.std.proofs.Math.Option.{Option, none, some}
use Rattle.layout.specs.Layout.{r_carry}
use Rattle.csv_read.specs.Reader.{read_row}

-- the carry of every block; it stands on the first row of a block's group and on no other (8.8)
abbrev pub block_carry : ℕ
block_carry = 1

abbrev pub carried : List ℕ → List ℕ
carried row = set row r_carry block_carry

abbrev pub carried_if : Option (List ℕ) → Option (List ℕ)
carried_if none = none
carried_if (some row) = some (carried row)

-- the row that a line's text is, with that carry
unfoldable pub read_block : List ℕ → Option (List ℕ)
read_block text = carried_if (read_row text)
