-- CONTRACTS. Where the search for an LF stands. Assumes nothing.
use Rattle.std.specs.Prelude.{ℕ, ◌+◌, ◌≤◌, ◌≡◌, List, length}
use Rattle.text_cut.specs.Cut.{cut, between}

-- how many bytes are looked at together
abbrev pub near : ℕ
near = 16

-- no LF stands among the k bytes of b from `at` on
pub record Free (b : List ℕ) (at k : ℕ) : Type 0 where
  pub on : (e : ℕ) → at + k ≤ e → e ≤ length b → cut (between b at e) ≡ k + cut (between b (at + k) e)

-- the first line from `at` on ends where the one from i on does
pub record Seeking (b : List ℕ) (at end i : ℕ) : Type 0 where
  pub ahead : at ≤ i
  pub within : i ≤ end
  pub left : at + cut (between b at end) ≡ i + cut (between b i end)
