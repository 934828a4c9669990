-- CONTRACTS. The pieces of a line of tries, written one after another. Assumes nothing.
use Rattle.std.specs.Prelude.{ℕ, ◌+◌, ◌-◌, ◌*◌, ◌≤◌, cond, List, [], ◌∷◌, ◌++◌, eqb, length, get_or}
use Rattle.floats.specs.Lists.{upto}
use Rattle.csv_figures.specs.Out.{Wrote}
use Rattle.csv_figures.specs.Write.{whole_text}
use Rattle.csv_line.specs.LineText.{comma, tailed}
use Rattle.night_columns.specs.Columns.{c_job, c_checksum, c_tolerance, c_closed}
use Rattle.night_columns.specs.Read.{most_digits}

-- bytes that a number and its comma never are more than
abbrev pub field_room : ℕ
field_room = most_digits + 1

-- and a line up to its tolerance, without its texts
abbrev pub front_room : ℕ
front_room = c_closed * field_room

-- the numbers of columns that stand one behind another
abbrev pub texts : List ℕ → ℕ → ℕ → List (List ℕ)
texts numbers from count = upto (λ (k : ℕ). whole_text (get_or numbers (from + k) 0)) count

pub record PutNumbers (numbers : List ℕ) (from count : ℕ) (o : List ℕ) (n : ℕ) (o' : List ℕ) (r : ℕ) : Type 0 where
  pub text : Wrote o n (tailed (texts numbers from count)) o' r
  pub near : r ≤ n + field_room * count

-- those before the tolerance
abbrev pub checked_texts : List ℕ → List (List ℕ)
checked_texts numbers = texts numbers c_checksum (c_tolerance - c_checksum)

-- a refusal and its line; 0 is none
abbrev pub refusal_texts : ℕ → ℕ → List (List ℕ)
refusal_texts refusal line = cond (eqb refusal 0) ([] ∷ [] ∷ []) (whole_text refusal ∷ whole_text line ∷ [])

-- a line up to its tolerance
abbrev pub front_text : List ℕ → List ℕ → List ℕ → List ℕ
front_text numbers file tolerance =
    whole_text (get_or numbers c_job 0) ++ ((comma ∷ file) ++ (tailed (checked_texts numbers) ++ (comma ∷ tolerance)))

pub record PutFront (numbers file tolerance o : List ℕ) (n : ℕ) (o' : List ℕ) (r : ℕ) : Type 0 where
  pub text : Wrote o n (front_text numbers file tolerance) o' r
  pub near : r ≤ n + length file + length tolerance + front_room
