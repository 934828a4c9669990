-- DEFINITIONS. Where the pen is on one axis behind a row. Assumes nothing.
use Rattle.std.specs.Prelude.{ℕ, Bool, true, false, cond, List, Option, Some, None}
use Rattle.floats.specs.Numbers.{num}
use Rattle.row_cells.specs.Bits.{has}
use Rattle.row_cells.specs.Row.{present_of, raw_word}
use Rattle.picture_place.specs.Place.{place_of}

-- an axis that a row does not show holds its last number; one that was never shown is not known
abbrev pub shows_code : List ℕ → ℕ → Bool
shows_code row code = has (present_of row) code

unfoldable pub spot_after : Option ℕ → List ℕ → ℕ → Option ℕ
spot_after spot row code = cond (shows_code row code) (Some (place_of (num (raw_word row code)))) spot

abbrev pub both_known : Option ℕ → Option ℕ → Bool
both_known None up = false
both_known (Some a) None = false
both_known (Some a) (Some u) = true
