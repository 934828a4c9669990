-- DEFINITIONS. A text as the list of its bytes, for texts of ASCII. Definitions only.
use Rattle.std.specs.Prelude.{ℕ, List, [], ◌∷◌}
use Prim.Native.Char.{code}
use Prim.Native.String.{String, [] as ε, ◌∷◌ as ◌then◌}

abbrev pub bytes : String → List ℕ
bytes ε = []
bytes (c then s) = code c ∷ bytes s
