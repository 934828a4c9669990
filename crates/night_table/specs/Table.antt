-- DEFINITIONS. The lines of a night's table of tries: rules 11.14, 11.15. Assumes nothing.
use Rattle.std.specs.Prelude.{ℕ, cond, List, [], ◌++◌, eqb, get_or}
use Rattle.floats.specs.Lists.{upto}
use Rattle.csv_figures.specs.Write.{whole_text}
use Rattle.csv_line.specs.LineText.{crlf, joined}
use Rattle.night_columns.specs.Columns.{columns, c_file, c_tolerance, c_refusal, may_lack}

-- 11.14: the fields of a try's line: each number in its column, and the two texts in theirs
unfoldable pub field_text : List ℕ → List ℕ → List ℕ → ℕ → List ℕ
field_text numbers file tolerance k =
    cond (eqb k c_file) file
    (cond (eqb k c_tolerance) tolerance
    (cond (may_lack k) (cond (eqb (get_or numbers c_refusal 0) 0) [] (whole_text (get_or numbers k 0)))
    (whole_text (get_or numbers k 0))))

unfoldable pub fields : List ℕ → List ℕ → List ℕ → List (List ℕ)
fields numbers file tolerance = upto (field_text numbers file tolerance) columns

-- 11.15
unfoldable pub try_line : List ℕ → List ℕ → List ℕ → List ℕ
try_line numbers file tolerance = joined (fields numbers file tolerance) ++ crlf
