-- DEFINITIONS. What the row text program starts the flattener with. Assumes nothing.
use Rattle.std.specs.Prelude.{ℕ, List, [], ◌∷◌}

-- axes X Y Z, tolerance 0.1, no seed
abbrev pub tolerance : ℕ
tolerance = 0x3fb999999999999a

abbrev pub axes : List ℕ
axes = 0 ∷ 1 ∷ 2 ∷ []
