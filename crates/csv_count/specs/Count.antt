-- DEFINITIONS. The refusal of row text, and how its physical lines are counted. Assumes nothing.
use Rattle.std.specs.Prelude.{ℕ, ◌+◌, cond, ltb}

-- the refusal of text, and of a row whose numbers have none
abbrev pub bad_text : ℕ
bad_text = 10

-- the lines of the input are counted from 1 up to this one
abbrev pub last_line : ℕ
last_line = 9999999999

unfoldable pub next_line : ℕ → ℕ
next_line n = cond (ltb n last_line) (n + 1) n
