-- DEFINITIONS. A list of tolerances. Assumes nothing.
use Rattle.std.specs.Prelude.{ℕ, cond, ◌&&◌, Option, Some, None, List, [], leb, length, get_or}
use Rattle.floats.specs.Lists.{all}
use Rattle.csv_line.specs.LineText.{parted}
use Rattle.night_tolerance.specs.Tolerance.{is_tolerance}

abbrev pub most_tolerances : ℕ
most_tolerances = 16

-- how many there are, and None where one is none, or they are too many
abbrev pub count_in : List (List ℕ) → Option ℕ
count_in fs = cond (leb (length fs) most_tolerances && all (length fs) (λ (i : ℕ). is_tolerance (get_or fs i []))) (Some (length fs)) None

unfoldable pub count_of : List ℕ → Option ℕ
count_of t = count_in (parted t)
