-- CONTRACTS. What the code asks of the digits of a root: the whole number nearest to it. Assumes nothing.
use Rattle.std.specs.Prelude.{ℕ, ◌+◌, ◌*◌, ◌^◌, ◌≤◌, ◌<◌}

-- r is the whole number nearest to √(m * 2 ^ 52): r - 1/2 < √(m * 2 ^ 52) < r + 1/2. No root of a whole number lies half way,
-- so both sides squared are these.
pub record Nearest (m r : ℕ) : Type 0 where
  pub above : m * 2 ^ 52 ≤ r * r + r
  pub below : r * r < m * 2 ^ 52 + r
