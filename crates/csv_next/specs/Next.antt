-- CONTRACTS. What comes next in a run of the row text program. Assumes nothing.
use Rattle.std.specs.Prelude.{ℕ, ◌≤◌, ◌≡◌, List}
use Rattle.text_lines.specs.Turns.{Turned}
use Rattle.csv_status.specs.Status.{goes_on}
use Rattle.csv_io.specs.Flush.{Emptied}
use Rattle.csv_reading.specs.declared.Reading.{Reading}
use Rattle.csv_next.specs.declared.Next.{Next}

-- the unread bytes lie in a buffer of n bytes, and what waits in two of o and e
pub record Held (s : Reading) (n o e : ℕ) : Type 0 where
  pub window : s.at ≤ s.end
  pub inside : s.end ≤ n
  pub outs : s.run.out ≤ o
  pub errs : s.run.err ≤ e

-- `rows` and `notices` bytes were handed over, and there is room for a line: the reading went on by a turn, or what waited could not be
-- written, and nothing was read
pub record Ready (s : Reading) (b o e : List ℕ) (r : Next) (b' : List ℕ) : Type 0 where
  pub rows : ℕ
  pub notices : ℕ
  pub emptied : Emptied s.run o e (record { run = r.run; rows = rows; notices = notices; over = r.over })
  pub turned : r.over ≡ goes_on → Turned b s.at s.end b' r.turn
  pub unread : (r.over ≡ goes_on → ⊥) → b' ≡ b
