-- LAWS. The Akima slopes as code reads them are the definition's, place by place. Assumes nothing.
use Rattle.std.specs.Prelude.{◌≡◌, List, [], ◌∷◌, ◌++◌, Float}
use Rattle.std.proofs.Math.Path.{sym, ap}
use Rattle.std.proofs.Common.{◌∙◌}
use Prim.Native.Nat.{ℕ, suc, ◌+◌, ◌-◌, ◌<◌, ◌≤◌}
use native.Mathlib.Omega.{arith}
use Rattle.std.proofs.Math.ListN.{get_or-append}
use Rattle.std.proofs.Math.Seq.{get_or-append-add}
use Rattle.std.specs.Float.Ieee.{nan}
use Rattle.floats.specs.Numbers.{◌⊖◌, ◌⊗◌, f2, at}
use Rattle.floats.specs.Lists.{upto}
use Rattle.floats.specs.Fill.{length-upto, at-upto}
use Rattle.fit_slopes.specs.Slopes.{secant, widened, akima_at}
use Rattle.fit_slopes.specs.Akima.{akima_of, before, behind}

pub akima-of : (m : List Float) (i : ℕ) {m1 m2 m3 m4 : Float}
    → m1 ≡ at m i → m2 ≡ at m (i + 1) → m3 ≡ at m (i + 2) → m4 ≡ at m (i + 3) → akima_of m1 m2 m3 m4 ≡ akima_at m i
unfolding akima_of akima_at
akima-of m i e1 e2 e3 e4 = rw (e1, e2, e3, e4)

-- m1, m2, m3 are the elements of w from i on
pub record Window (w : List Float) (i : ℕ) (m1 m2 m3 : Float) : Type 0 where
  pub first : m1 ≡ at w i
  pub second : m2 ≡ at w (i + 1)
  pub third : m3 ≡ at w (i + 2)

pub window_more : {w : List Float} {i : ℕ} {m1 m2 m3 m4 : Float} → Window w i m1 m2 m3 → m4 ≡ at w (i + 3) → Window w (i + 1) m2 m3 m4
window_more {w} {i} h e =
    let two : i + 2 ≡ i + 1 + 1 = omega arith in
    let three : i + 3 ≡ i + 1 + 2 = omega arith in
    record { first = h.second; second = h.third ∙ ap (at w) two; third = e ∙ ap (at w) three }

module _ (ts ys : List Float) (n : ℕ) where
  ends : List Float
  ends = behind ts ys n ∷ (f2 ⊗ behind ts ys n ⊖ secant ts ys (n - 2)) ∷ []

  pub wide-first : {i : ℕ} {a s : Float} → i ≡ 0 → a ≡ before ts ys → s ≡ secant ts ys 0 → f2 ⊗ a ⊖ s ≡ at (widened ts ys n) i
  unfolding widened
  wide-first e ea es = rw (e, ea, es)

  pub wide-second : {i : ℕ} {a : Float} → i ≡ 1 → a ≡ before ts ys → a ≡ at (widened ts ys n) i
  unfolding widened
  wide-second e ea = rw (e, ea)

  at-step : (j : ℕ) → j < n - 1 → secant ts ys j ≡ at (widened ts ys n) (suc (suc j))
  unfolding widened ends
  at-step j h = sym (get_or-append (upto (secant ts ys) (n - 1)) ends nan j (rw length-upto h) ∙ at-upto (secant ts ys) (n - 1) j nan h)

  pub wide_step : (i : ℕ) {s : Float} → 2 ≤ i → i ≤ n → s ≡ secant ts ys (i - 2) → s ≡ at (widened ts ys n) i
  wide_step i h g es = let e : suc (suc (i - 2)) ≡ i = omega arith in es ∙ at-step (i - 2) (omega arith) ∙ ap (at (widened ts ys n)) e

  at-end : (k : ℕ) → at ends k ≡ at (widened ts ys n) (suc (suc (n - 1 + k)))
  unfolding widened ends
  at-end k =
      let steps = upto (secant ts ys) (n - 1) in
      sym (ap (λ (l : ℕ). at (steps ++ ends) (l + k)) (sym (length-upto (secant ts ys) (n - 1))) ∙ get_or-append-add steps ends k nan)

  pub wide-behind : (i : ℕ) {z : Float} → 1 ≤ n → i ≡ n + 1 → z ≡ behind ts ys n → z ≡ at (widened ts ys n) i
  unfolding ends
  wide-behind i h e ez = let g : suc (suc (n - 1 + 0)) ≡ i = omega arith in ez ∙ at-end 0 ∙ ap (at (widened ts ys n)) g

  pub wide-last : (i : ℕ) {z s : Float} → 1 ≤ n → i ≡ n + 2 → z ≡ behind ts ys n → s ≡ secant ts ys (n - 2) → f2 ⊗ z ⊖ s ≡ at (widened ts ys n) i
  unfolding ends
  wide-last i h e ez es = let g : suc (suc (n - 1 + 1)) ≡ i = omega arith in rw (ez, es) (at-end 1 ∙ ap (at (widened ts ys n)) g)
