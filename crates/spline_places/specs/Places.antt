-- CONTRACTS. What counting the rows, samples and point blocks before a block asks. Assumes nothing.
use Rattle.std.specs.Prelude.{ℕ, ◌^◌, ◌≤◌, ◌<◌, ◌≡◌, Bool, List, length, get_or}
use Rattle.spline_places.specs.declared.place.Place.{Place}
use Rattle.spline_places.specs.Sizes.{moved}

-- no block has more samples than this, and all held blocks together no more rows than that: no sum of them wraps
abbrev pub most_run : ℕ
most_run = 2 ^ 48

abbrev pub most_rows : ℕ
most_rows = 2 ^ 56

pub record Few (counts : List ℕ) : Type 0 where
  pub few : (k : ℕ) → get_or counts k 0 ≤ most_run

-- the place lies behind a block
pub record Behind (point : Bool) (counts : List ℕ) (p : Place) : Type 0 where
  pub before : Place
  pub is : p ≡ moved point counts before
  pub known : before.points < length counts
