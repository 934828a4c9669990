-- `fit_forward::forward`: what holds at each turn of its loops. Assumes nothing.
use mathlib.Core.Path.{◌≡◌}
use mathlib.Core.List.{List}
use Prim.Native.Nat.{ℕ, ◌+◌}
use lib.Ieee.{Float}
use Rattle.fit_slopes.specs.Slopes.{sup, diag, rhs}
use Rattle.floats.specs.Fill.{Filling}
use Rattle.fit_forward.proofs.forward.Given as goal

-- after row i
pub record Rows (ts ys : List Float) (d₀ r₀ d r : List Float) (dp rp up : Float) (i : ℕ) : Type 0 where
  pub pivot : dp ≡ diag ts i
  pub right : rp ≡ rhs ts ys i
  pub above : up ≡ sup ts i
  pub diags : Filling (diag ts) (i + 1) d₀ d
  pub rights : Filling (rhs ts ys) (i + 1) r₀ r

abbrev pub invariant-loop-i : goal.invariant-loop-i
invariant-loop-i l = Rows l.ts l.ys l.initial.d l.initial.r l.d l.r l.dp l.rp l.up l.i
