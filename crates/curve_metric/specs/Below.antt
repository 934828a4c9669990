-- DEFINITIONS. The metric's channels lie within a point. Assumes nothing.
use Rattle.std.specs.Prelude.{ℕ, ◌<◌, List, length, get_or}

-- every channel of ms is below n
unfoldable pub Below : List ℕ → ℕ → Type 0
Below ms n = (k : ℕ) → k < length ms → get_or ms k 0 < n
