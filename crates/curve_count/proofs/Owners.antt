-- LAWS. The tables of a stretch are what its owners ask. Assumes nothing.
use mathlib.Core.List.{List}
use Prim.Native.Nat.{ℕ, ◌-◌, ◌≤◌}
use native.Mathlib.Omega.{arith}
use lib.Ieee.{Float}
use Rattle.curve_walk.specs.declared.Form.{Form}
use Rattle.curve_walk.specs.declared.Form.TheVariants.{Basis, Fit}
use Rattle.curve_walk.specs.declared.Shape.{Shape}
use Rattle.curve_walk.specs.Asks.{Formed, Tables, Advances, Owners}

advances_of : (f : Form) (n ch : ℕ) (ks cs : List Float) → Formed f n ch ks cs → Advances f n ks
advances_of (Basis p) n ch ks cs t = record { one = omega (arith, t.under); knots = omega (arith, t.knots, t.some); low = omega (arith, t.under, t.few) }
advances_of (Fit k) n ch ks cs t = tt

pub owners_of : {s : Shape} {ks cs : List Float} → Tables s ks cs → (o : ℕ) → o ≤ s.n - 1 → Owners s ks o
owners_of {s} {ks} {cs} t o h = record { owned = h; advances = advances_of s.form s.n s.ch ks cs t.formed }
