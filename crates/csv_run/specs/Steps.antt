-- CONTRACTS. What one line does to the memory that it is done with. Assumes nothing.
use Rattle.std.specs.Prelude.{ℕ, ◌+◌, ◌*◌, ◌≤◌, ◌≡◌, List}
use Rattle.layout.specs.Layout.{row_words}
use Rattle.csv_out.specs.declared.Run.{Run}
use Rattle.csv_out.specs.Say.{notice_room, lent_rows, call_room}
use Rattle.csv_out.specs.Said.{Adds}
use Rattle.csv_spec.specs.Line.{Stand, Step}

-- the lent memory, and the bytes of the two buffers
pub record Slices : Type 0 where
  pub state : List ℕ
  pub store : List ℕ
  pub rows : List ℕ
  pub out : List ℕ
  pub err : List ℕ

abbrev pub slices : List ℕ → List ℕ → List ℕ → List ℕ → List ℕ → Slices
slices st store rows o e = record { state = st; store = store; rows = rows; out = o; err = e }

-- what stands, in a run and the lent memory
abbrev pub standing : Run → Slices → Stand
standing run m =
    record { state = m.state; store = m.store; rows = m.rows; physical = run.physical; source = run.source; refused = run.refused }

-- the step d was done: what stands then is its, and its bytes are added behind those that wait
pub record Stepped (d : Step) (run : Run) (m : Slices) (r : Run) (m' : Slices) : Type 0 where
  pub stand : standing r m' ≡ d.stand
  pub out : Adds d.out m.out run.out m'.out r.out
  pub err : Adds d.err m.err run.err m'.err r.err

-- room for what one line can say: all the lent rows, and one notice
pub record Room (run : Run) (rows out err : ℕ) : Type 0 where
  pub places : rows ≡ lent_rows * row_words
  pub outs : run.out + call_room ≤ out
  pub errs : run.err + notice_room ≤ err
