-- LAWS. The owner of a sample, and its place in the counts. Assumes nothing.
use mathlib.Core.Path.{◌≡◌, subst}
use mathlib.Core.List.{List}
use Prim.Native.Nat.{ℕ, ◌-◌, ◌≤◌, ◌<◌}
use native.Mathlib.Omega.{arith}
use lib.Ieee.{Float}
use Rattle.curve_walk.specs.declared.Form.{Form}
use Rattle.curve_walk.specs.declared.Form.TheVariants.{Basis}
use Rattle.curve_walk.specs.declared.Shape.{Shape}
use Rattle.curve_walk.specs.Walks.{own_of}
use Rattle.curve_walk.specs.Asks.{Knotted, Advances, Owners, Counts}
use Rattle.curve_walk.specs.Counting.{own_in_lem}

pub knotted : {s : Shape} {ks : List Float} {o p : ℕ} → s.form ≡ Basis p → Owners s ks o → Knotted p s.n ks
knotted {s} {ks} e o = subst (λ (f : Form). Advances f s.n ks) e o.advances

-- the owner's place in the counts
pub owner_index : {s : Shape} {ks : List Float} {o : ℕ} {l : List ℕ} (t : Float) {r : ℕ} → Owners s ks o × Counts s o 0 l → r ≡ own_of s ks o t
    → (1 ≤ r) × (r - 1 < s.n - 1)
owner_index {s} {ks} {o} {l} t h e = omega (arith, own_in_lem s ks o t h.1.owned, h.1.some)
