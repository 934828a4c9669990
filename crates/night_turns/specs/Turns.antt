-- CONTRACTS. A whole try: its start, its turns from the first to the last, and its end. Assumes nothing.
use Rattle.std.specs.Prelude.{ℕ, ◌+◌, ◌-◌, ◌≤◌, ◌<◌, ◌^◌, ◌⊎◌, ◌≡◌, cond, List, [], ◌++◌, eqb, length, take}
use Rattle.checksum.specs.Checksum.{checksum}
use Rattle.text_lines.specs.declared.Found.{Found}
use Rattle.text_lines.specs.declared.Found.TheVariants as Found
use Rattle.text_lines.specs.declared.Turn.{Turn}
use Rattle.text_cut.specs.Cut.{between}
use Rattle.csv_status.specs.Status.{goes_on, ended}
use Rattle.night_course.specs.declared.Ticket.{Ticket}
use Rattle.night_course.specs.declared.Course.{Course}
use Rattle.night_course.specs.declared.TryRun.{TryRun}
use Rattle.night_course.specs.Course.{goes}
use Rattle.night_answer.specs.Answers.{Sound}
use Rattle.night_begin.specs.Starts.{StartTold}
use Rattle.night_found.specs.declared.Next.{Next}
use Rattle.night_flush.specs.declared.Reading.{Reading}
use Rattle.night_flush.specs.declared.Tried.{Tried}
use Rattle.night_reading.specs.Reading.{first_reading, came_by}
use Rattle.night_flush.specs.Flush.{LastIs, kept}
use Rattle.night_found.specs.Next.{Ready}
use Rattle.night_reading.specs.Readings.{BehindIs}
use Rattle.night_spec.specs.Try.{Step, still, night_line, ends, night_end, night_try}
use Rattle.night_turns.specs.Steps.{Slices, slices, standing, Stepped, try_room, list_room}

-- the bytes that the two buffers have room for: what may wait, and what a call adds to it
abbrev pub out_room : ℕ
out_room = try_room + kept

abbrev pub listeds_room : ℕ
listeds_room = list_room + kept

-- the unread bytes lie in the buffer, and what waits fits
pub record Within (s : Reading) : Type 0 where
  pub window : s.at ≤ s.end
  pub inside : s.end ≤ kept
  pub outs : s.run.out ≤ out_room
  pub lists : s.run.listed ≤ listeds_room
  pub sound : Sound s.run

-- little waits, so that there is room for what a call can answer
pub record Light (run : TryRun) : Type 0 where
  pub outs : run.out ≤ kept
  pub lists : run.listed ≤ kept
  pub sound : Sound run

-- a turn's places lie in a buffer of n bytes
pub record FoundIn (t : Turn) (n : ℕ) : Type 0 where
  pub start : t.from ≤ t.at
  pub window : t.at ≤ t.end
  pub inside : t.end ≤ n

-- what was read and not yet used
abbrev pub unread_bytes : Reading → List ℕ → List ℕ
unread_bytes s b = between b s.at s.end

-- of the bytes that waited, the first are handed over and the others wait
abbrev pub handed : ℕ → ℕ → List ℕ → List ℕ
handed waited waits l = take (waited - waits) l

-- what stands, and all bytes of a try: those that were handed over, and behind them those that wait
abbrev pub so_far : List ℕ → List ℕ → TryRun → Slices → Step
so_far outs lists run m =
    record { stand = standing run m; out = outs ++ take run.out m.out; listed = lists ++ take run.listed m.listed }

-- what is done with what a turn found: lines are taken as long as the try goes on, and the end of the input ends it; a line that fills the buffer
-- is told as a part of a line, as at the end
abbrev pub line_deed : Turn → TryRun → List ℕ → Slices → Step
line_deed t run b m =
    cond (eqb run.course.stands goes) (night_line run.ticket (standing run m) (between b t.from t.at)) (still (standing run m))

abbrev pub end_deed : Turn → TryRun → Slices → Step
end_deed t run m = night_end run.ticket (standing run m) (t.end - t.at)

abbrev pub deed_of : Found → Turn → TryRun → List ℕ → Slices → Step
deed_of Found.Line t run b m = line_deed t run b m
deed_of Found.More t run b m = still (standing run m)
deed_of Found.Ended t run b m = end_deed t run m
deed_of Found.Full t run b m = ends run.ticket (standing run m) (t.end - t.at)
deed_of Found.Failed t run b m = still (standing run m)

pub record DoneBy (f : Found) (t : Turn) (run : TryRun) (b : List ℕ) (m : Slices) (r : TryRun) (m' : Slices) : Type 0 where
  pub step : Stepped (deed_of f t run b m) run m r m'

-- what the turn found was done, and the reading stands behind it
pub record Did (next : Next) (s : Reading) (b : List ℕ) (m : Slices) (came : List ℕ) (r : Reading) (m' : Slices) : Type 0 where
  pub going : next.over ≡ goes_on
  pub long : length b ≡ kept
  pub bytes : came ≡ came_by s next.turn b
  pub then : TryRun
  pub deed : DoneBy next.turn.found next.turn next.run b m then m'
  pub reading : BehindIs s next.turn then b r

-- what waited could not be written, and nothing was done
pub record Stopped (next : Next) (s : Reading) (m : Slices) (came : List ℕ) (r : Reading) (m' : Slices) : Type 0 where
  pub over : next.over ≡ goes_on → ⊥
  pub nothing : came ≡ []
  pub reading : r ≡ record { at = s.at; end = s.end; run = next.run; over = next.over; sum = s.sum; length = s.length }
  pub memory : m' ≡ m

-- one turn: `came` was read
pub record TurnIs (s : Reading) (b : List ℕ) (m : Slices) (r : Reading) (b' : List ℕ) (m' : Slices) : Type 0 where
  pub next : Next
  pub came : List ℕ
  pub ready : Ready s b next b'
  pub deed : Did next s b' m came r m' ⊎ Stopped next s m came r m'
  pub within : Within r

-- turns one after another, each from where the one before it went on: they read `got` and handed over `outs` and `lists`, in this order
pub data Turns (s₀ : Reading) (b₀ : List ℕ) (m₀ : Slices) : Reading → List ℕ → Slices → List ℕ → List ℕ → List ℕ → Type 0 where
  none : Turns s₀ b₀ m₀ s₀ b₀ m₀ [] [] []
  then : {s r : Reading} {b b' : List ℕ} {m m' : Slices} {got outs lists : List ℕ} → Turns s₀ b₀ m₀ s b m got outs lists → s.over ≡ goes_on
      → (t : TurnIs s b m r b' m')
      → Turns s₀ b₀ m₀ r b' m' (got ++ t.came) (outs ++ handed s.run.out t.next.run.out m.out)
      (lists ++ handed s.run.listed t.next.run.listed m.listed)

pub record AllTurns (s₀ : Reading) (b₀ : List ℕ) (m₀ : Slices) (s : Reading) (b : List ℕ) (m : Slices) : Type 0 where
  pub got : List ℕ
  pub outs : List ℕ
  pub lists : List ℕ
  pub turns : Turns s₀ b₀ m₀ s b m got outs lists
  pub within : Within s

-- a try was started and told, and its turns were done one after another. Where they came to the end of the input,
-- what stands then, what they handed over and what waited is what the definition says of what they read, and the sum is the checksum of that
pub record Ran (t : Ticket) (tolerance : ℕ) (b : List ℕ) (m : Slices) (r : Tried) (b' : List ℕ) (m' : Slices) : Type 0 where
  pub course : Course
  pub state : List ℕ
  pub tally : List ℕ
  pub began : StartTold t m.state m.tally tolerance state tally course
  pub reading : Reading
  pub turned : AllTurns (first_reading t course) b (slices state m.store m.rows tally m.out m.listed) reading b' m'
  pub last : LastIs reading r
  pub all : reading.over ≡ ended → night_try t m.state m.store m.rows m.tally tolerance turned.got
      ≡ so_far turned.outs turned.lists reading.run m'
  pub sum : reading.over ≡ ended → length turned.got < 2 ^ 64 → r.sum ≡ checksum turned.got
