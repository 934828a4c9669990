-- CONTRACTS. What a turn of the row text program does. Assumes nothing.
use Rattle.std.specs.Prelude.{ℕ, ◌≤◌, ◌<◌, ◌⊎◌, ◌≡◌, false, List, [], ◌++◌, length, take}
use Rattle.text_cut.specs.Cut.{cut}
use Rattle.csv_io.specs.Flush.{out_room, err_room}
use Rattle.csv_status.specs.Status.{goes_on, ended}
use Rattle.csv_spec.specs.Line.{Step, csv_line, csv_end}
use Rattle.csv_spec.specs.Csv.{still, Begins}
use Rattle.csv_run.specs.Steps.{Slices, standing}
use Rattle.csv_reading.specs.declared.Reading.{Reading}
use Rattle.csv_reading.specs.Reading.{going_of, unread}

-- the bytes that the input buffer has room for
abbrev pub in_room : ℕ
in_room = 65536

-- the unread bytes lie in the buffer, what waits fits, and a run that goes on has no refusal
pub record Within (s : Reading) : Type 0 where
  pub window : s.at ≤ s.end
  pub inside : s.end ≤ in_room
  pub outs : s.run.out ≤ out_room
  pub errs : s.run.err ≤ err_room
  pub clear : s.over ≡ goes_on → s.run.refused ≡ false

-- the step d was done: of the bytes that waited and those that it said, `outs` and `errs` were handed over, and the others wait; of notices
-- only those that waited were handed over, and with them all the rows that waited (7.18)
pub record Spoke (d : Step) (outs errs : List ℕ) (s : Reading) (m : Slices) (r : Reading) (m' : Slices) : Type 0 where
  pub stand : standing r.run m' ≡ d.stand
  pub out : outs ++ take r.run.out m'.out ≡ take s.run.out m.out ++ d.out
  pub err : errs ++ take r.run.err m'.err ≡ take s.run.err m.err ++ d.err
  pub waited : Begins errs (take s.run.err m.err)
  pub rows_first : (errs ≡ [] → ⊥) → outs ≡ take s.run.out m.out

-- one whole line was handed on, or none: what was unread, and behind it what came, is that line, and behind it what is unread then
pub record Went (s : Reading) (b : List ℕ) (m : Slices) (came outs errs : List ℕ) (r : Reading) (b' : List ℕ) (m' : Slices) : Type 0 where
  pub line : List ℕ
  pub step : Step
  pub bytes : unread s b ++ came ≡ line ++ unread r b'
  pub did : ((line ≡ []) × (step ≡ still (standing s.run m))) ⊎ ((cut line ≡ length line) × (step ≡ csv_line (standing s.run m) line))
  pub told : Spoke step outs errs s m r m'
  pub over : r.over ≡ going_of r.run.refused

-- the input has ended, and no line stands in what is unread
pub record Closed (s : Reading) (b : List ℕ) (m : Slices) (came outs errs : List ℕ) (r : Reading) (m' : Slices) : Type 0 where
  pub nothing : came ≡ []
  pub none : length (unread s b) < cut (unread s b)
  pub told : Spoke (csv_end (standing s.run m) (length (unread s b))) outs errs s m r m'
  pub over : r.over ≡ ended

-- a descriptor failed, and nothing was done
pub record Failed (s : Reading) (b : List ℕ) (m : Slices) (came outs errs : List ℕ) (r : Reading) (b' : List ℕ) (m' : Slices) : Type 0 where
  pub nothing : came ≡ []
  pub bytes : unread s b ≡ unread r b'
  pub told : Spoke (still (standing s.run m)) outs errs s m r m'
  pub over : ended < r.over

-- one turn: `came` was read, and `outs` and `errs` were handed over
pub record TurnIs (s : Reading) (b : List ℕ) (m : Slices) (r : Reading) (b' : List ℕ) (m' : Slices) : Type 0 where
  pub came : List ℕ
  pub outs : List ℕ
  pub errs : List ℕ
  pub within : Within r
  pub deed : Went s b m came outs errs r b' m' ⊎ (Closed s b m came outs errs r m' ⊎ Failed s b m came outs errs r b' m')
