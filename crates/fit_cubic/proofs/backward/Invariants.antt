-- `fit_cubic::backward`: what holds at each turn of its loops. Assumes nothing.
use mathlib.Core.Path.{◌≡◌}
use mathlib.Core.List.{List}
use Prim.Native.Nat.{ℕ, ◌-◌, ◌<◌, ◌+◌}
use lib.Ieee.{Float, nan}
use Rattle.fit_slopes.specs.Slopes.{bend_back, bend}
use Rattle.floats.specs.Fill.{Backing}
use Rattle.fit_cubic.proofs.Cubics.{Unspent}
use Rattle.fit_cubic.proofs.backward.Given as goal

-- at knot i
pub record Bends (ts ys : List Float) (m : ℕ) (r₀ r : List Float) (b : Float) (i : ℕ) : Type 0 where
  pub low : 0 < i
  pub last : b ≡ bend_back ts ys m (m - i)
  pub done : Backing nan (bend ts ys m) i (m + 1) r₀ r
  pub unspent : Unspent ts ys r i

abbrev pub invariant-loop-j : goal.invariant-loop-j
invariant-loop-j l = Bends l.ts l.ys l.m l.initial.r l.r l.b l.j
