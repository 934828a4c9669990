-- CONTRACTS. The work memory of an emission. Assumes nothing.
use Rattle.std.specs.Prelude.{ℕ, ◌+◌, ◌*◌, List}
use Rattle.fit_tables.specs.Asks.{usual_channels}
use Rattle.spline_curve.specs.Asks.{channel_count}

-- points and numbers of a middling spline at most
abbrev pub middle_points : ℕ
middle_points = 64

abbrev pub middle_numbers : ℕ
middle_numbers = usual_channels * middle_points

-- numbers of a held spline at most, of the curve's start and of a point for each block
abbrev pub numbers_of : List ℕ → List ℕ → ℕ → ℕ
numbers_of axes store held = (held + 1) * channel_count axes store held
