-- DEFINITIONS. What the field of a cell holds: rules 7.4, 7.5. Assumes nothing.
use Rattle.std.specs.Prelude.{ℕ, Bool, true, false, cond, ◌&&◌, List, [], eqb, length, get_or, Option as Read, Some, None, Float}
use Rattle.std.proofs.Math.Option.{Option, none, some}
use Rattle.floats.specs.Numbers.{bits}
use Rattle.floats.specs.Lists.{all}
use Rattle.csv_fields.specs.Read.{number}
use Rattle.csv_line.specs.LineText.{column_count}

-- 7.5: an empty field is an absent cell; the bits of a cell's number
abbrev pub word_in : Read Float → Option ℕ
word_in (Some x) = some (bits x)
word_in None = none

unfoldable pub given : List ℕ → Option ℕ
given f = cond (eqb (length f) 0) none (word_in (number f))

abbrev pub is_number : Read Float → Bool
is_number (Some x) = true
is_number None = false

unfoldable pub cell_ok : List ℕ → Bool
cell_ok f = cond (eqb (length f) 0) true (is_number (number f))

-- 7.4: the cells, in the order of the header
unfoldable pub cells_ok : List (List ℕ) → Bool
cells_ok fs = eqb (length fs) column_count && all column_count (λ (i : ℕ). cell_ok (get_or fs i []))
