-- DEFINITIONS. What the row text program does with one line, and with the end of its input. Assumes nothing.
use Rattle.std.specs.Prelude.{ℕ, Bool, cond, List, eqb, take, Option as Read, Some, None}
use Rattle.std.proofs.Math.Option.{Option, none, some}
use Rattle.row_cells.specs.Row.{line_of}
use Rattle.call_reply.specs.Replies.{After}
use Rattle.call_answer.specs.Push.{push_spec}
use Rattle.call_answer.specs.Close.{close_spec}
use Rattle.csv_line.specs.LineText.{end_of}
use Rattle.csv_read.specs.Reader.{read_row}
use Rattle.csv_count.specs.Count.{bad_text, next_line}
use Rattle.csv_out.specs.Say.{Say, refusal, heading}
use Rattle.csv_answer.specs.Answer.{answer}

-- what stands before a line: the state and the store, the words of the lent rows, the number of the line, the source line of
-- the last block, and whether there was a refusal
pub record Stand : Type 0 where
  pub state : List ℕ
  pub store : List ℕ
  pub rows : List ℕ
  pub physical : ℕ
  pub source : ℕ
  pub refused : Bool

-- what stands then, and the bytes for standard output and for standard error
pub record Step : Type 0 where
  pub stand : Stand
  pub out : List ℕ
  pub err : List ℕ

-- p is said, and the calls have not been used
abbrev pub spoken : Stand → Say → Step
spoken s p =
    record {
      stand = record { state = s.state; store = s.store; rows = s.rows; physical = s.physical; source = s.source; refused = p.refused };
      out = p.out;
      err = p.err;
    }

-- a call was used, at a source line
abbrev pub called : Stand → ℕ → After → Step
called s source a =
    let p = answer source a.reply.code a.reply.count a.reply.warning a.rows in
    record {
      stand = record { state = a.state; store = a.store; rows = a.rows; physical = s.physical; source = source; refused = p.refused };
      out = p.out;
      err = p.err;
    }

-- text that cannot be read: refused at its physical line
unfoldable pub unread : Stand → Step
unread s = spoken s (refusal s.physical bad_text)

-- a row is pushed: its source line is the line of what the call says
unfoldable pub on_row : Stand → List ℕ → Step
on_row s row = called s (line_of row) (push_spec s.state s.store s.rows row)

abbrev pub on_read : Stand → Option (List ℕ) → Step
on_read s none = unread s
on_read s (some row) = on_row s row

-- the text of a line: the first is the header, any other a row
unfoldable pub on_text : Stand → List ℕ → Step
on_text s text = cond (eqb s.physical 1) (spoken s (heading s.physical text)) (on_read s (read_row text))

abbrev pub on_end : Stand → List ℕ → Read ℕ → Step
on_end s line None = unread s
on_end s line (Some n) = on_text s (take n line)

-- the line is counted
abbrev pub counted : Step → Step
counted d =
    let s = d.stand in
    let n = next_line s.physical in
    record {
      stand = record { state = s.state; store = s.store; rows = s.rows; physical = n; source = s.source; refused = s.refused };
      out = d.out;
      err = d.err;
    }

-- one line, with its end
unfoldable pub csv_line : Stand → List ℕ → Step
csv_line s line = counted (on_end s line (end_of line))

-- the close, at the source line of the last block
unfoldable pub csv_close : Stand → Step
csv_close s = called s s.source (close_spec s.state s.store s.rows)

-- the end of the input, where `left` bytes stand behind its last LF: a line without its end is no line, and the header may
-- not be missing
unfoldable pub csv_end : Stand → ℕ → Step
csv_end s left = cond (eqb left 0) (cond (eqb s.physical 1) (unread s) (csv_close s)) (unread s)
