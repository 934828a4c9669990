-- DEFINITIONS. What the line of a try can hold, and what it reads back as: rules 11.14 to 11.16. Assumes nothing.
use Rattle.std.specs.Prelude.{ℕ, ◌≤◌, ◌≡◌, true, cond, List, T, eqb, length, get_or, take, Some}
use Rattle.floats.specs.Lists.{upto}
use Rattle.csv_line.specs.LineText.{end_of, parted, joined}
use Rattle.csv_forms.specs.Clean.{clean}
use Rattle.night_figures.specs.Figures.{most_figure}
use Rattle.night_columns.specs.Columns.{columns, c_file, c_tolerance, c_refusal, c_line}
use Rattle.night_table.specs.Table.{fields, try_line}
use Rattle.night_table.specs.Back.{is_try, values_of}

-- figures as 11.10 counts them, texts with no comma, quote, CR or LF, and no line of a refusal where there is none
pub record Writable (numbers file tolerance : List ℕ) : Type 0 where
  pub few : (k : ℕ) → get_or numbers k 0 ≤ most_figure
  pub named : T (clean file)
  pub given : T (clean tolerance)
  pub unrefused : get_or numbers c_refusal 0 ≡ 0 → get_or numbers c_line 0 ≡ 0

-- what column k reads back as: its number, or how long its text is
abbrev pub back_of : List ℕ → List ℕ → List ℕ → ℕ → ℕ
back_of numbers file tolerance k = cond (eqb k c_file) (length file) (cond (eqb k c_tolerance) (length tolerance) (get_or numbers k 0))

-- the line of a try without its end
abbrev pub line_text : List ℕ → List ℕ → List ℕ → List ℕ
line_text numbers file tolerance = joined (fields numbers file tolerance)

-- its end is found behind it; up to there, parted at its commas, it is the fields that were written, texts too; it is the line of a try, and of
-- these numbers
pub record ReadsBack (numbers file tolerance : List ℕ) : Type 0 where
  pub end : end_of (try_line numbers file tolerance) ≡ Some (length (line_text numbers file tolerance))
  pub upto-end : take (length (line_text numbers file tolerance)) (try_line numbers file tolerance) ≡ line_text numbers file tolerance
  pub parts : parted (line_text numbers file tolerance) ≡ fields numbers file tolerance
  pub good : is_try (line_text numbers file tolerance) ≡ true
  pub values : values_of (line_text numbers file tolerance) ≡ upto (back_of numbers file tolerance) columns
