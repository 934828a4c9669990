-- CONTRACTS. What a call that is made and told does to the memory of a try. Assumes nothing.
use Rattle.std.specs.Prelude.{ℕ, ◌+◌, ◌*◌, ◌≤◌, ◌≡◌, List}
use Rattle.layout.specs.Layout.{row_words}
use Rattle.csv_write.specs.Writer.{row_room}
use Rattle.csv_out.specs.Said.{Adds}
use Rattle.night_naming.specs.Naming.{listed_room}
use Rattle.night_course.specs.declared.TryRun.{TryRun}
use Rattle.night_answer.specs.Answers.{Sound}
use Rattle.night_spec.specs.Try.{Stand, Step, night_rows}

-- the lent memory, the tally, and the bytes of the two buffers
pub record Slices : Type 0 where
  pub state : List ℕ
  pub store : List ℕ
  pub rows : List ℕ
  pub tally : List ℕ
  pub out : List ℕ
  pub listed : List ℕ

abbrev pub slices : List ℕ → List ℕ → List ℕ → List ℕ → List ℕ → List ℕ → Slices
slices st store rows tally o l = record { state = st; store = store; rows = rows; tally = tally; out = o; listed = l }

-- what stands, in a try and the memory
abbrev pub standing : TryRun → Slices → Stand
standing run m = record { state = m.state; store = m.store; rows = m.rows; tally = m.tally; course = run.course }

-- the step d was done: what stands then is its, and its bytes are added behind those that wait
pub record Stepped (d : Step) (run : TryRun) (m : Slices) (r : TryRun) (m' : Slices) : Type 0 where
  pub stand : standing r m' ≡ d.stand
  pub ticket : r.ticket ≡ run.ticket
  pub out : Adds d.out m.out run.out m'.out r.out
  pub listed : Adds d.listed m.listed run.listed m'.listed r.listed
  pub sound : Sound r

-- what one call can answer: the text of all the lent rows, and a line for each
abbrev pub try_room : ℕ
try_room = row_room * night_rows

abbrev pub list_room : ℕ
list_room = listed_room * night_rows

-- room for it
pub record Room (run : TryRun) (rows o l : ℕ) : Type 0 where
  pub places : rows ≡ night_rows * row_words
  pub outs : run.out + try_room ≤ o
  pub lists : run.listed + list_room ≤ l
  pub sound : Sound run
