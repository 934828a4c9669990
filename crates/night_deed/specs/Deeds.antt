-- CONTRACTS. What a turn found is done up to the call that it asks for, and then a call is made and told. Assumes nothing.
use Rattle.std.specs.Prelude.{ℕ, ◌≤◌, ◌≡◌, true, List, ◌++◌, take, Option, Some, None}
use Rattle.layout.specs.Layout.{row_words}
use Rattle.call_reply.specs.declared.Reply.{Reply}
use Rattle.call_reply.specs.Replies.{plain, After, PushIs, untouched}
use Rattle.call_answer.specs.Push.{push_spec}
use Rattle.call_answer.specs.Close.{close_spec}
use Rattle.text_lines.specs.declared.Found.{Found}
use Rattle.text_lines.specs.declared.Turn.{Turn}
use Rattle.csv_line.specs.LineText.{crlf}
use Rattle.csv_header.specs.Header.{header_out}
use Rattle.csv_out.specs.Said.{Adds}
use Rattle.night_course.specs.declared.Ticket.{Ticket}
use Rattle.night_course.specs.declared.TryRun.{TryRun}
use Rattle.night_course.specs.Course.{with_course, next_course}
use Rattle.night_answer.specs.Answers.{Sound, AnswerFits}
use Rattle.night_spec.specs.Try.{night_rows, Stand, Step, still, and_then, unread, headed, on_row, on_close, counted, ends}
use Rattle.night_turns.specs.Steps.{Slices, slices, standing, Stepped, Room}
use Rattle.night_turns.specs.Turns.{deed_of}
use Rattle.night_due.specs.declared.Call.{Call}
use Rattle.night_due.specs.declared.Call.TheVariants as Call
use Rattle.night_due.specs.Due.{close_due, again_due, is_due}
use Rattle.night_text.specs.declared.LineIs.{LineIs}
use Rattle.night_text.specs.Text.{Says, nothing, heading, block, says, text_says}
use Rattle.night_deed.specs.declared.Asked.{Asked}

-- the try with n bytes of rows that wait
abbrev pub with_out : TryRun → ℕ → TryRun
with_out run n = record { ticket = run.ticket; course = run.course; out = n; listed = run.listed }

abbrev pub nothing_due : TryRun → Asked
nothing_due run = record { run = run; call = Call.Nothing }

-- the header is written behind the rows that wait
pub record HeadTold (run : TryRun) (o : List ℕ) (r : TryRun) (o' : List ℕ) : Type 0 where
  pub is : r ≡ with_out run r.out
  pub adds : Adds (header_out ++ crlf) o run.out o' r.out

-- what a line with its end says, and what is done with it
abbrev pub line_says : ℕ → List ℕ → Option ℕ → Says
line_says physical line None = nothing
line_says physical line (Some n) = text_says physical (take n line)

abbrev pub says_step : Says → Ticket → Stand → Step
says_step nothing t s = unread t s
says_step heading t s = headed s
says_step (block row) t s = on_row t s row

-- a call, as a step; the line of the block that it pushed is counted
unfoldable pub call_step : Call → Ticket → Stand → List ℕ → Step
call_step Call.Nothing t s row = still s
call_step Call.Push t s row = counted (on_row t s row)
call_step Call.Close t s row = on_close t s

-- and behind it the call that is due then
abbrev pub calls_by : Call → Ticket → Stand → List ℕ → Step
calls_by call t s row =
    let d = call_step call t s row in
    and_then d (call_step (again_due call d.stand.course.stands) t d.stand row)

-- what a call answers and leaves in the lent memory
unfoldable pub after_call : Call → List ℕ → List ℕ → List ℕ → List ℕ → After
after_call Call.Nothing st store rows row = untouched (plain 0) st store rows
after_call Call.Push st store rows row = push_spec st store rows row
after_call Call.Close st store rows row = close_spec st store rows

-- a part of a deed is done, and the rest of it is the calls that are due
pub record Asking (deed : Step) (run : TryRun) (m : Slices) (call : Call) (row : List ℕ) (r : TryRun) (m' : Slices) : Type 0 where
  pub part : Step
  pub step : Stepped part run m r m'
  pub rest : deed ≡ and_then part (calls_by call run.ticket part.stand row)

-- so it is for a deed of this memory, whatever else it holds; and before a call nothing was added to what waits
pub record AskedBy (deed : Slices → Step) (run : TryRun) (row w o : List ℕ) (a : Asked) (w' o' : List ℕ) : Type 0 where
  pub waits : is_due a.call ≡ true → (a.run.out ≡ run.out) × (a.run.listed ≡ run.listed)
  pub asks : (st store rows l : List ℕ) → Sound run
      → let was = slices st store rows w o l in
      let is = slices st store rows w' o' l in Asking (deed was) run was a.call row a.run is

pub record TurnAsked (f : Found) (t : Turn) (run : TryRun) (b row w o : List ℕ) (a : Asked) (w' o' : List ℕ) : Type 0 where
  pub by : AskedBy (deed_of f t run b) run row w o a w' o'

pub record LineTold (what : LineIs) (run : TryRun) (w o : List ℕ) (a : Asked) (w' o' : List ℕ) : Type 0 where
  pub asked : (row : List ℕ) → AskedBy (λ (m : Slices). counted (says_step (says what row) run.ticket (standing run m))) run row w o a w' o'

-- the input has ended, and nothing more waits
pub record EndTold (run : TryRun) (behind : ℕ) (w : List ℕ) (r : TryRun) (w' : List ℕ) : Type 0 where
  pub out : r.out ≡ run.out
  pub listed : r.listed ≡ run.listed
  pub step : (st store rows o l : List ℕ) → Sound run
      → let was = slices st store rows w o l in
      let is = slices st store rows w' o l in Stepped (ends run.ticket (standing run was) behind) run was r is

pub record EndAsked (run : TryRun) (behind : ℕ) (w : List ℕ) (a : Asked) (w' : List ℕ) : Type 0 where
  pub told : EndTold run behind w a.run w'
  pub due : a.call ≡ close_due a.run.course.stands

-- ---- a call: the room for it, where one is due
pub record DueRoom (call : Call) (run : TryRun) (rows o l : ℕ) : Type 0 where
  pub sound : Sound run
  pub room : is_due call ≡ true → Room run rows o l

pub record HeardRoom (call : Call) (run : TryRun) (n : ℕ) (reply : Reply) (rows o l : ℕ) : Type 0 where
  pub row : n ≡ row_words
  pub sound : Sound run
  pub fits : is_due call ≡ true → AnswerFits reply rows o l run

-- the call was made, and it answers no more rows than it was lent
pub record Replied (call : Call) (st store rows row : List ℕ) (r : Reply) (st' store' rows' : List ℕ) : Type 0 where
  pub is : PushIs (after_call call st store rows row) r st' store' rows'
  pub few : is_due call ≡ true → r.code ≡ 0 → r.count ≤ night_rows

-- the line of a block that was pushed is counted
abbrev pub counted_by : Call → TryRun → TryRun
counted_by Call.Nothing run = run
counted_by Call.Push run = with_course run (next_course run.course)
counted_by Call.Close run = run

-- where the reply is the call's, its step is done
pub record Heard (call : Call) (run : TryRun) (row : List ℕ) (reply : Reply) (rows w o l : List ℕ) (r : TryRun) (w' o' l' : List ℕ) : Type 0 where
  pub step : (st store lent st' store' : List ℕ) → Replied call st store lent row reply st' store' rows
      → let was = slices st store lent w o l in
      let is = slices st' store' rows w' o' l' in Stepped (call_step call run.ticket (standing run was) row) run was r is
