-- CONTRACTS. What a flush leaves, and how a try ends. Assumes nothing.
use Rattle.std.specs.Prelude.{ℕ, ◌≡◌}
use Rattle.checksum.specs.Checksum as Checksum
use Rattle.csv_status.specs.Status.{ended}
use Rattle.night_course.specs.declared.TryRun.{TryRun}
use Rattle.night_flush.specs.declared.Reading.{Reading}
use Rattle.night_flush.specs.declared.Tried.{Tried}

-- what may wait in each buffer before a line
abbrev pub kept : ℕ
kept = 65536

-- nothing waits
abbrev pub empty_run : TryRun → TryRun
empty_run run = record { ticket = run.ticket; course = run.course; out = 0; listed = 0 }

-- a try has ended only where its turns have
pub record LastIs (s : Reading) (r : Tried) : Type 0 where
  pub course : r.course ≡ s.run.course
  pub over : r.over ≡ ended → s.over ≡ ended
  pub sum : r.sum ≡ Checksum.ended s.sum s.length
  pub count : r.length ≡ s.length
