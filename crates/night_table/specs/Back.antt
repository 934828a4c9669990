-- DEFINITIONS. What the text of a line of tries is read as: rule 11.16. Assumes nothing.
use Rattle.std.specs.Prelude.{ℕ, Bool, ◌&&◌, Option, List, [], eqb, length, get_or}
use Rattle.floats.specs.Lists.{upto, all}
use Rattle.csv_line.specs.LineText.{parted}
use Rattle.night_columns.specs.Columns.{columns}
use Rattle.night_columns.specs.Read.{column_of, is_whole, value_of}

abbrev pub read_at : List (List ℕ) → ℕ → Option ℕ
read_at fs k = column_of (get_or fs k []) k

-- 11.16: the line of a try has a field for each column, each of which can be read; and its numbers by their columns
abbrev pub is_try_in : List (List ℕ) → Bool
is_try_in fs = eqb (length fs) columns && all columns (λ (k : ℕ). is_whole (read_at fs k))

unfoldable pub is_try : List ℕ → Bool
is_try t = is_try_in (parted t)

unfoldable pub values_of : List ℕ → List ℕ
values_of t = upto (λ (k : ℕ). value_of (read_at (parted t) k)) columns
