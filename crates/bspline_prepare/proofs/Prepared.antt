-- The degree, and the knots as they are filled. Assumes nothing.
use mathlib.Core.Path.{◌≡◌, sym, ap, ◌∙◌}
use mathlib.Core.List.{List}
use Prim.Native.Nat.{ℕ, ◌+◌, ◌-◌, ◌<◌, ◌≤◌, min}
use native.Mathlib.Omega.{arith}
use lib.Ieee.{Float, nan}
use Rattle.floats.specs.Numbers.{of_nat, at}
use Rattle.floats.specs.Lists.{filled, Agrees}
use Rattle.floats.specs.Fill.{at-filled, at-upto}
use Rattle.bspline_tables.specs.Basis.{degree_of, knots}

pub knots_are : (n p : ℕ) (l : List Float) {ks : List Float} → ks ≡ filled (λ i. of_nat (min (i - p) (n - p))) (n + p + 1) l
    → Agrees ks (at (knots n p)) (n + p + 1)
unfolding Agrees knots
knots_are n p l e k h = ap (λ (z : List Float). at z k) e ∙ at-filled _ l (n + p + 1) k nan h ∙ sym (at-upto _ (n + p + 1) k nan h)

pub knot-top : (n p : ℕ) (l : List Float) {ks : List Float} → ks ≡ filled (λ i. of_nat (min (i - p) (n - p))) (n + p + 1) l → at ks n ≡ of_nat (n - p)
knot-top n p l e =
    let m : min (n - p) (n - p) ≡ n - p = omega arith in
    ap (λ (z : List Float). at z n) e ∙ at-filled _ l (n + p + 1) n nan (omega arith) ∙ ap of_nat m

pub degree_in : (degree n : ℕ) {p : ℕ} → 2 ≤ n → p ≡ degree_of n degree → (1 ≤ p) × (p < n)
unfolding degree_of
degree_in degree n h e = omega arith
