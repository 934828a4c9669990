-- CONTRACTS. Where a field of a text begins. Assumes nothing.
use Rattle.std.specs.Prelude.{ℕ, ◌+◌, ◌-◌, ◌≤◌, ◌<◌, ◌≡◌, List, [], length, take, drop, get_or}
use Rattle.csv_line.specs.LineText.{parted}
use Rattle.csv_cells.specs.Parts.{rest_at}

-- from r on stand the fields from the i-th on, and none where there are not so many
pub record FieldFrom (t : List ℕ) (i r : ℕ) : Type 0 where
  pub rest : rest_at t r ≡ drop i (parted t)
  pub near : r ≤ length t + 1

-- f is the i-th field
pub record IsField (t : List ℕ) (i : ℕ) (f : List ℕ) : Type 0 where
  pub inside : i < length (parted t)
  pub is : f ≡ get_or (parted t) i []
  pub near : length f ≤ length t

-- the field from `at` up to `end`
abbrev pub field_is : List ℕ → ℕ → ℕ → List ℕ
field_is t at end = take (end - at) (drop at t)
