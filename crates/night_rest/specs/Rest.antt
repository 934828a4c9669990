-- CONTRACTS. A line of tries behind its tolerance, written. Assumes nothing.
use Rattle.std.specs.Prelude.{ℕ, ◌+◌, ◌-◌, ◌*◌, ◌≤◌, List, ◌++◌, get_or}
use Rattle.csv_figures.specs.Out.{Wrote}
use Rattle.csv_line.specs.LineText.{crlf, tailed}
use Rattle.night_columns.specs.Columns.{columns, c_closed, c_refusal, c_line, c_warnings}
use Rattle.night_pieces.specs.Pieces.{field_room, texts, refusal_texts}

-- bytes that it never is more than, with its end
abbrev pub rest_room : ℕ
rest_room = (columns - c_closed) * field_room + 2

-- the columns of numbers before the refusal, and from the warnings on
abbrev pub counted_texts : List ℕ → List (List ℕ)
counted_texts numbers = texts numbers c_closed (c_refusal - c_closed)

abbrev pub last_texts : List ℕ → List (List ℕ)
last_texts numbers = texts numbers c_warnings (columns - c_warnings)

abbrev pub rest_text : List ℕ → List ℕ
rest_text numbers =
    tailed (counted_texts numbers)
    ++ (tailed (refusal_texts (get_or numbers c_refusal 0) (get_or numbers c_line 0)) ++ (tailed (last_texts numbers) ++ crlf))

pub record PutRest (numbers o : List ℕ) (n : ℕ) (o' : List ℕ) (r : ℕ) : Type 0 where
  pub text : Wrote o n (rest_text numbers) o' r
  pub near : r ≤ n + rest_room
