-- CONTRACTS. Room that was made, and what comes next. Assumes nothing.
use Rattle.std.specs.Prelude.{ℕ, ◌≤◌, ◌⊎◌, ◌≡◌, List}
use Rattle.text_lines.specs.Turns.{Turned}
use Rattle.csv_status.specs.Status.{goes_on, ended}
use Rattle.night_course.specs.declared.TryRun.{TryRun}
use Rattle.night_flush.specs.declared.Left.{Left}
use Rattle.night_flush.specs.declared.Reading.{Reading}
use Rattle.night_flush.specs.Flush.{kept, empty_run}
use Rattle.night_found.specs.declared.Next.{Next}

-- all that waited was handed over, or all still waits and is little
pub record Emptied (run : TryRun) (r : Left) : Type 0 where
  pub outs : r.run.out ≤ kept
  pub lists : r.run.listed ≤ kept
  pub all : (r.run ≡ run) ⊎ (r.run ≡ empty_run run)
  pub going : r.over ≡ ended → ⊥

-- the unread bytes lie in a buffer of n bytes, and what waits in two of o and l
pub record Held (s : Reading) (n o l : ℕ) : Type 0 where
  pub window : s.at ≤ s.end
  pub inside : s.end ≤ n
  pub outs : s.run.out ≤ o
  pub lists : s.run.listed ≤ l

-- room was made, and then the reading went on by a turn; or what waited could not be written, and nothing was read
pub record Ready (s : Reading) (b : List ℕ) (r : Next) (b' : List ℕ) : Type 0 where
  pub emptied : Emptied s.run (record { run = r.run; over = r.over })
  pub turned : r.over ≡ goes_on → Turned b s.at s.end b' r.turn
  pub unread : (r.over ≡ goes_on → ⊥) → b' ≡ b
