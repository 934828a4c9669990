-- DEFINITIONS. What was written, as groups: one for each block, in block order, none missing, empty, split or repeated: rule 8.7. Assumes nothing.
use Rattle.std.specs.Prelude.{ℕ, ◌≡◌, Bool, List, map}
use Rattle.floats.specs.Lists.{flatten}
use Rattle.demand_calls.specs.Every.{Every}
use Rattle.demand_groups.specs.Group.{Group}

-- a block, whether it is a B-spline's last point (8.9), and the rows that it becomes
pub record Piece : Type 0 where
  pub block : List ℕ
  pub last : Bool
  pub rows : List (List ℕ)

abbrev pub groups : List Piece → List (List (List ℕ))
groups ps = map (λ (p : Piece). p.rows) ps

abbrev pub Grouped : List ℕ → Piece → Type 0
Grouped gs p = Group gs p.block p.last p.rows

pub record Written (gs : List ℕ) (blocks : List (List ℕ)) (ps : List Piece) (out : List ℕ) : Type 0 where
  pub groups : out ≡ flatten (flatten (groups ps))
  pub order : map (λ (p : Piece). p.block) ps ≡ blocks
  pub each : Every (Grouped gs) ps
