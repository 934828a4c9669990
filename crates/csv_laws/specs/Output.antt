-- DEFINITIONS. What standard output is made of: a header line, and lines of clean fields; what some lines said. Assumes nothing.
use Rattle.std.specs.Prelude.{ℕ, ◌≡◌, List, [], ◌++◌, T, length}
use Rattle.csv_line.specs.LineText.{crlf, parted, joined}
use Rattle.csv_header.specs.Header.{header_out}
use Rattle.csv_forms.specs.Clean.{clean_all}
use Rattle.text_cut.specs.Cut.{lines_from}
use Rattle.csv_spec.specs.Line.{Step}
use Rattle.csv_spec.specs.Csv.{csv_lines, begun}

-- the whole lines of an input, each done from what the one before it left; its end is not
abbrev pub lines_said : List ℕ → Step
lines_said a = csv_lines begun (lines_from [] a)

-- how many bytes the text of a row has, at most
abbrev pub longest_row : ℕ
longest_row = 224

-- 7.3, 7.4: a line has as many fields as the header, none of them with a quote, comma, CR or LF, and ends with CR LF
pub record CleanText (l : List ℕ) : Type 0 where
  pub fields : List (List ℕ)
  pub count : length fields ≡ length (parted header_out)
  pub clean : T (clean_all fields)
  pub text : l ≡ joined fields ++ crlf

-- such lines, one after another
pub data CleanLines : List ℕ → Type 0 where
  none : CleanLines []
  then : {l rest : List ℕ} → CleanText l → CleanLines rest → CleanLines (l ++ rest)

-- 7.2: nothing, or the header and then such lines
pub data Output : List ℕ → Type 0 where
  nothing : Output []
  headed : {rest : List ℕ} → CleanLines rest → Output ((header_out ++ crlf) ++ rest)
