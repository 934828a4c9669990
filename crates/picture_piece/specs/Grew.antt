-- CONTRACTS. Text that was stored from a place on, by its room alone. Assumes nothing.
use Rattle.std.specs.Prelude.{ℕ, ◌+◌, ◌≤◌, ◌≡◌, List, length}

-- room for a count, for a number of millionths, and for a scale
abbrev pub count_room : ℕ
count_room = 13

abbrev pub parts_room : ℕ
parts_room = 16

abbrev pub scale_room : ℕ
scale_room = 20

-- at most `room` bytes were stored from n on, up to r
pub record Grew (o : List ℕ) (n room : ℕ) (o' : List ℕ) (r : ℕ) : Type 0 where
  pub least : n ≤ r
  pub most : r ≤ n + room
  pub same : length o' ≡ length o
