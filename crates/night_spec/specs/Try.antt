-- DEFINITIONS. A try of a night, from the bytes of its file to what it leaves: rules 11.1 to 11.3. Assumes nothing.
use Rattle.std.specs.Prelude.{ℕ, zero, suc, cond, ◌&&◌, ◌||◌, not, List, [], ◌∷◌, ◌++◌, eqb, length, take, Option as Read, Some, None}
use Rattle.std.proofs.Math.Option.{Option, none, some}
use Rattle.row_cells.specs.Row.{line_of}
use Rattle.call_reply.specs.Replies.{After, plain}
use Rattle.call_start.specs.Start.{start_spec}
use Rattle.call_answer.specs.Push.{push_spec}
use Rattle.call_answer.specs.Close.{close_spec}
use Rattle.tally_call.specs.Calls.{k_push, k_close}
use Rattle.text_cut.specs.Cut.{lf, lines_from, rest_from}
use Rattle.csv_line.specs.LineText.{crlf, end_of}
use Rattle.csv_header.specs.Header.{header, header_out}
use Rattle.csv_words.specs.Words.{same}
use Rattle.night_block.specs.Block.{read_block}
use Rattle.csv_start.specs.Given.{axes}
use Rattle.csv_count.specs.Count.{bad_text}
use Rattle.night_course.specs.declared.Ticket.{Ticket}
use Rattle.night_course.specs.declared.Course.{Course}
use Rattle.night_course.specs.Course.{goes, is_open, if_told, at_source, next_course}
use Rattle.night_refusal.specs.Refusal.{turned_down}
use Rattle.night_answer.specs.Answer.{heard, answered}
use Rattle.night_note.specs.Note.{told_by}
use Rattle.night_begin.specs.Begin.{k_start, first_course}

-- how many rows a call is lent room for
abbrev pub night_rows : ℕ
night_rows = 131072

-- what stands: the flattener's memory, the tally, and the numbers of the try
pub record Stand : Type 0 where
  pub state : List ℕ
  pub store : List ℕ
  pub rows : List ℕ
  pub tally : List ℕ
  pub course : Course

-- what stands then, the text of rows, and the lines that name blocks
pub record Step : Type 0 where
  pub stand : Stand
  pub out : List ℕ
  pub listed : List ℕ

abbrev pub still : Stand → Step
still s = record { stand = s; out = []; listed = [] }

abbrev pub and_then : Step → Step → Step
and_then d e = record { stand = e.stand; out = d.out ++ e.out; listed = d.listed ++ e.listed }

-- ---- 11.1: every call is told, as it was heard, and with the rows that it was lent; its source line is that of the block pushed
unfoldable pub called : Ticket → Stand → ℕ → ℕ → After → Step
called t s source kind a =
    let r = heard a.reply a.rows in
    let n = told_by t s.tally kind r a.rows in
    let d = answered t (at_source source s.course) kind r a.rows in
    record {
      stand = record { state = a.state; store = a.store; rows = a.rows; tally = n.state; course = if_told n.reply.code d.course };
      out = d.out;
      listed = d.listed;
    }

unfoldable pub on_row : Ticket → Stand → List ℕ → Step
on_row t s row = called t s (line_of row) k_push (push_spec s.state s.store s.rows row)

unfoldable pub on_close : Ticket → Stand → Step
on_close t s = called t s s.course.source k_close (close_spec s.state s.store s.rows)

-- 11.2: text that cannot be read is told as a push refused by 10, at its physical line
unfoldable pub unread : Ticket → Stand → Step
unread t s =
    let n = told_by t s.tally k_push (plain bad_text) [] in
    still (record {
      state = s.state;
      store = s.store;
      rows = s.rows;
      tally = n.state;
      course = if_told n.reply.code (turned_down s.course k_push bad_text s.course.physical);
    })

abbrev pub on_read : Ticket → Stand → Option (List ℕ) → Step
on_read t s none = unread t s
on_read t s (some row) = on_row t s row

-- the header is answered by the header of rows
abbrev pub headed : Stand → Step
headed s = record { stand = s; out = header_out ++ crlf; listed = [] }

-- the text of a line: the first is the header, any other a row
unfoldable pub on_text : Ticket → Stand → List ℕ → Step
on_text t s text = cond (eqb s.course.physical 1) (cond (same header text) (headed s) (unread t s)) (on_read t s (read_block text))

abbrev pub on_end : Ticket → Stand → List ℕ → Read ℕ → Step
on_end t s line None = unread t s
on_end t s line (Some n) = on_text t s (take n line)

-- the line is counted
abbrev pub counted : Step → Step
counted d =
    let s = d.stand in
    record {
      stand = record { state = s.state; store = s.store; rows = s.rows; tally = s.tally; course = next_course s.course };
      out = d.out;
      listed = d.listed;
    }

-- one line, with its end
unfoldable pub night_line : Ticket → Stand → List ℕ → Step
night_line t s line = counted (on_end t s line (end_of line))

-- 11.3: lines are taken as long as the try goes on
unfoldable pub night_lines : Ticket → Stand → List (List ℕ) → Step
night_lines t s [] = still s
night_lines t s (l ∷ ls) =
    let d = night_line t s l in
    cond (eqb s.course.stands goes) (and_then d (night_lines t d.stand ls)) (still s)

-- the end of the input, where `behind` bytes stand behind its last LF: a line without its end is no line, and the header may not be missing
unfoldable pub ends : Ticket → Stand → ℕ → Step
ends t s behind = cond (eqb s.course.stands goes && (not (eqb behind 0) || eqb s.course.physical 1)) (unread t s) (still s)

-- a try that is open is closed
unfoldable pub closes : Ticket → Stand → Step
closes t s = cond (is_open s.course.stands) (on_close t s) (still s)

-- a close whose rows have no text leaves it open, and holding nothing: it is closed once more (11.6)
unfoldable pub shuts : Ticket → Stand → Step
shuts t s = let d = closes t s in and_then d (closes t d.stand)

unfoldable pub night_end : Ticket → Stand → ℕ → Step
night_end t s behind = let d = ends t s behind in and_then d (shuts t d.stand)

-- 11.2: the first bytes of a line that has no end among them end the input, as if it had no more
abbrev pub line_room : ℕ
line_room = 65536

-- the bytes that are taken, where the line that is read may have `room` more
unfoldable pub taken : ℕ → List ℕ → List ℕ
taken room [] = []
taken zero (c ∷ t) = []
taken (suc room) (c ∷ t) = c ∷ taken (cond (eqb c lf) line_room room) t

-- all that is done from s on, with this input still to come
unfoldable pub night_rest : Ticket → Stand → List ℕ → Step
night_rest t s input =
    let read = taken line_room input in
    let d = night_lines t s (lines_from [] read) in
    and_then d (night_end t d.stand (length (rest_from [] read)))

-- ---- a try begins with a start, told as any call: axes X Y Z, this tolerance, no seed
unfoldable pub begun : Ticket → List ℕ → List ℕ → List ℕ → List ℕ → ℕ → Stand
begun t state store rows tally tolerance =
    let a = start_spec state tolerance axes in
    let n = told_by t tally k_start a.reply [] in
    record {
      state = a.state;
      store = store;
      rows = rows;
      tally = n.state;
      course = if_told n.reply.code (first_course a.reply.code);
    }

-- a whole try in this memory
unfoldable pub night_try : Ticket → List ℕ → List ℕ → List ℕ → List ℕ → ℕ → List ℕ → Step
night_try t state store rows tally tolerance input = night_rest t (begun t state store rows tally tolerance) input
