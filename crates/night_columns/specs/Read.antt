-- DEFINITIONS. What a field of a line of tries is read as: rule 11.16. Assumes nothing.
use Rattle.std.specs.Prelude.{ℕ, Bool, true, false, cond, Option, Some, None, List, eqb, length, take}
use Rattle.csv_fields.specs.Read.{run, num}
use Rattle.night_columns.specs.Columns.{is_text, may_lack}

-- a whole number of one to ten digits
abbrev pub most_digits : ℕ
most_digits = 10

unfoldable pub whole_of : List ℕ → Option ℕ
whole_of t =
    cond (eqb (run most_digits t) 0) None
    (cond (eqb (run most_digits t) (length t)) (Some (num 0 (take (run most_digits t) t))) None)

unfoldable pub empty_at : ℕ → Option ℕ
empty_at k = cond (may_lack k) (Some 0) None

-- a text is read as how long it is
unfoldable pub column_of : List ℕ → ℕ → Option ℕ
column_of t k = cond (is_text k) (Some (length t)) (cond (eqb (length t) 0) (empty_at k) (whole_of t))

abbrev pub is_whole : Option ℕ → Bool
is_whole (Some n) = true
is_whole None = false

abbrev pub value_of : Option ℕ → ℕ
value_of (Some n) = n
value_of None = 0
