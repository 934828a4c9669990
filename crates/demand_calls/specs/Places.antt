-- DEFINITIONS. The row places of a call: how many are lent, and what a call that is done leaves in them: rules 1.18, 2.2. Assumes nothing.
use Rattle.std.specs.Prelude.{ℕ, ◌*◌, ◌/◌, ◌≡◌, List, length, take, drop}
use Rattle.floats.specs.Lists.{flatten}
use Rattle.layout.specs.Layout.{row_words}

-- 1.18: whole rows alone count
abbrev pub places : List ℕ → ℕ
places rows = length rows / row_words

-- 2.2: the rows from the first word on, and beyond them what stood there
pub record Filled (before after : List ℕ) (count : ℕ) (out : List (List ℕ)) : Type 0 where
  pub rows : count ≡ length out
  pub written : take (count * row_words) after ≡ flatten out
  pub beyond : drop (count * row_words) after ≡ drop (count * row_words) before
