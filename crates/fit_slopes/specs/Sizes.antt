-- DEFINITIONS. Sizes that are chosen. Assumes nothing.
use Rattle.std.specs.Prelude.{ℕ}

-- up to as many points use smaller arrays
abbrev pub small_points : ℕ
small_points = 16
