-- DEFINITIONS. What holds of each element of a list. Assumes nothing.
use Rattle.std.specs.Prelude.{List, [], ◌∷◌}

pub data Every {A : Type 0} (P : A → Type 0) : List A → Type 0 where
  nil : Every P []
  more : {x : A} {xs : List A} → P x → Every P xs → Every P (x ∷ xs)
