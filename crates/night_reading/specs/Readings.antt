-- CONTRACTS. Where the reading stands behind a turn, and what is counted and summed by then. Assumes nothing.
use Rattle.std.specs.Prelude.{ℕ, ◌+◌, ◌≤◌, ◌<◌, ◌^◌, ◌≡◌, List, length}
use Rattle.checksum.specs.Checksum.{with_bytes}
use Rattle.text_lines.specs.declared.Turn.{Turn}
use Rattle.night_course.specs.declared.TryRun.{TryRun}
use Rattle.night_flush.specs.declared.Reading.{Reading}
use Rattle.night_flush.specs.Flush.{kept}
use Rattle.night_reading.specs.declared.Sum.{Sum}
use Rattle.night_reading.specs.Reading.{over_of, from_of, came_by}

-- bytes are counted, and the sum is over them too
pub record Summed (s : Sum) (bytes : List ℕ) (r : Sum) : Type 0 where
  pub sum : r.sum ≡ with_bytes s.sum bytes
  pub count : s.length + length bytes < 2 ^ 64 → r.length ≡ s.length + length bytes

-- a turn's places lie in a buffer of n bytes, as those before it did
pub record Places (s : Reading) (t : Turn) (n : ℕ) : Type 0 where
  pub window : s.at ≤ s.end
  pub before : s.end ≤ n
  pub start : t.from ≤ t.at
  pub next : t.at ≤ t.end
  pub inside : t.end ≤ n
  pub most : n ≤ kept

-- the reading behind a turn
pub record BehindIs (s : Reading) (t : Turn) (run : TryRun) (b : List ℕ) (r : Reading) : Type 0 where
  pub from : r.at ≡ from_of t.found t
  pub upto : r.end ≡ t.end
  pub try : r.run ≡ run
  pub over : r.over ≡ over_of t.found
  pub sum : Summed (record { sum = s.sum; length = s.length }) (came_by s t b) (record { sum = r.sum; length = r.length })
