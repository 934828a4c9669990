-- CONTRACTS. Where a turn of the reading loop lies in the buffer. Assumes nothing.
use Rattle.std.specs.Prelude.{ℕ, ◌≤◌, ◌<◌, ◌≡◌}
use Rattle.text_lines.specs.declared.Found.TheVariants as Found
use Rattle.text_lines.specs.declared.Turn.{Turn}

-- in a buffer of n bytes; a line that was found has its LF
pub record Lies (t : Turn) (n : ℕ) : Type 0 where
  pub window : t.at ≤ t.end
  pub inside : t.end ≤ n
  pub line : t.found ≡ Found.Line → t.from < t.at
