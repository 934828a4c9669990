-- DEFINITIONS. What the row text program says to a header and to text that it cannot read. Assumes nothing.
use Rattle.std.specs.Prelude.{ℕ, ◌*◌, Bool, true, false, cond, List, [], ◌++◌}
use Rattle.csv_words.specs.Words.{same}
use Rattle.csv_line.specs.LineText.{crlf}
use Rattle.csv_header.specs.Header.{header, header_out}
use Rattle.csv_line.specs.Notice.{notice_text}
use Rattle.csv_write.specs.Writer.{row_room}
use Rattle.csv_count.specs.Count.{bad_text}

-- how many bytes the lines are never longer than: one of standard error, the header, a row
abbrev pub notice_room : ℕ
notice_room = 32

abbrev pub header_room : ℕ
header_room = 80

-- how many rows a call is lent room for, and how many bytes they are never more than
abbrev pub lent_rows : ℕ
lent_rows = 256

abbrev pub call_room : ℕ
call_room = row_room * lent_rows

-- what is said: whether it is a refusal, the bytes for standard output, and those for standard error
pub record Say : Type 0 where
  pub refused : Bool
  pub out : List ℕ
  pub err : List ℕ

-- a refusal writes no row
unfoldable pub refusal : ℕ → ℕ → Say
refusal line number = record { refused = true; out = []; err = notice_text line number true }

-- the first line, at its number: the one header is read, and then the other is written
unfoldable pub heading : ℕ → List ℕ → Say
heading physical text = cond (same header text) (record { refused = false; out = header_out ++ crlf; err = [] }) (refusal physical bad_text)
