-- LAWS. Two knots, or more, for either kind of slope. Assumes nothing.
use mathlib.Core.Path.{◌≡◌, refl, sym}
use mathlib.Core.List.{List}
use Prim.Native.Nat.{ℕ, ◌≤◌}
use native.Mathlib.Omega.{arith}
use lib.ListN.{length, set}
use lib.Ieee.{Float}
use borrow.Author.Tests.{eq-eqb, ne_eqb}
use Rattle.floats.specs.Lists.{filled}
use Rattle.floats.specs.Fill.{filling-none, filling-more}
use Rattle.fit_slopes.specs.Slopes.{secant, widened, akima_at, akima_slope}
use Rattle.fit_slopes.specs.Filled.{filled_same_as}

pub both-filled : {v : Float} (l : List Float) {u : Float} → 2 ≤ length l → v ≡ u → set (set l 0 v) 1 v ≡ filled (λ (k : ℕ). u) 2 l
both-filled {v} l {u} h e =
    let f : ℕ → Float = λ (k : ℕ). u in
    (filling-more {f = f} {i = 1} (filling-more {f = f} {i = 0} (filling-none {f = f} {l = l}) (omega arith) e) (omega arith) e).is

module _ (ts ys : List Float) (n : ℕ) (l : List Float) where
  akima_two : n ≡ 2 → (k : ℕ) → secant ts ys 0 ≡ akima_slope ts ys n k
  unfolding akima_slope
  akima_two e k = rw (eq-eqb n 2 e)

  akima_more : (n ≡ 2 → ⊥) → (k : ℕ) → akima_at (widened ts ys n) k ≡ akima_slope ts ys n k
  unfolding akima_slope
  akima_more e k = rw (ne_eqb n 2 e)

  pub akima_straight : n ≡ 2 → filled (λ (k : ℕ). secant ts ys 0) 2 l ≡ filled (akima_slope ts ys n) n l
  akima_straight e = filled_same_as (λ (k : ℕ). secant ts ys 0) (akima_slope ts ys n) 2 n l (sym e) (akima_two e)

  pub akima_many : (n ≡ 2 → ⊥) → filled (akima_at (widened ts ys n)) n l ≡ filled (akima_slope ts ys n) n l
  akima_many e = filled_same_as (akima_at (widened ts ys n)) (akima_slope ts ys n) n n l refl (akima_more e)
