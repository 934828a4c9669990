-- CONTRACTS. The pieces of a line that names a block, stored behind what waits. Assumes nothing.
use Rattle.std.specs.Prelude.{ℕ, ◌+◌, ◌≤◌, ◌≡◌, List, length}
use Rattle.csv_figures.specs.Out.{Wrote}

-- motions below this have a word
abbrev pub motion_words : ℕ
motion_words = 16

-- room for a number and what ends its field, and for a word and its comma; four of the one and one of the other are a line
abbrev pub number_room : ℕ
number_room = 13

abbrev pub word_room : ℕ
word_room = 8

-- t is stored from n on, and is at most w bytes
pub record PutIn (w : ℕ) (t o : List ℕ) (n : ℕ) (o' : List ℕ) (r : ℕ) : Type 0 where
  pub wrote : Wrote o n t o' r
  pub most : r ≤ n + w
  pub ahead : n ≤ r
  pub same : length o' ≡ length o
