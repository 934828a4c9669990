-- LAWS. Two knots, or more, for `natural_cubic_slopes`; a list filled over what was filled before. Assumes nothing.
use mathlib.Core.Path.{◌≡◌, sym, ◌∙◌, ap}
use mathlib.Core.List.{List}
use mathlib.Core.Logic.{⊎_elim}
use Prim.Native.Nat.{ℕ, ◌+◌, ◌-◌, ◌<◌, ◌≤◌}
use native.Mathlib.Omega.{arith}
use lib.ListN.{length, get_or}
use lib.Seq.{ext_get_or}
use lib.Ieee.{Float, nan}
use borrow.Author.Tests.{eq-eqb, ne_eqb}
use Rattle.floats.specs.Lists.{filled}
use Rattle.floats.specs.Fill.{length-filled, at-filled, past-filled, lt_or_le}
use Rattle.fit_slopes.specs.Slopes.{secant, bent, cubic_slope}
use Rattle.fit_slopes.specs.Filled.{filled_same_as}

module _ (f g : ℕ → Float) (m n : ℕ) (l : List Float) (few : m ≤ n) (room : n ≤ length l) where
  short : length (filled g m l) ≡ length l
  short = length-filled g l m (omega arith)

  over : (k : ℕ) → get_or (filled f n (filled g m l)) k nan ≡ get_or (filled f n l) k nan
  over k = ⊎_elim
      (λ (lt : k < n). at-filled f (filled g m l) n k nan lt ∙ sym (at-filled f l n k nan lt))
      (λ (ge : n ≤ k). past-filled f (filled g m l) n k nan ge ∙ past-filled g l m k nan (omega arith) ∙ sym (past-filled f l n k nan ge))
      (lt_or_le k n)

  pub filled-over : {us xs : List Float} → us ≡ filled g m l → xs ≡ filled f n us → xs ≡ filled f n l
  filled-over eu ex = ex ∙ ap (filled f n) eu ∙ ext_get_or nan (filled f n (filled g m l)) (filled f n l)
      (length-filled f (filled g m l) n (omega (arith, short)) ∙ short ∙ sym (length-filled f l n room)) (λ k h. over k)

module _ (ts ys : List Float) (n : ℕ) (l : List Float) where
  cubic-two : n ≡ 2 → (k : ℕ) → secant ts ys 0 ≡ cubic_slope ts ys n k
  unfolding cubic_slope
  cubic-two e k = rw (eq-eqb n 2 e)

  cubic-more : (n ≡ 2 → ⊥) → (k : ℕ) → bent ts ys (n - 1) k ≡ cubic_slope ts ys n k
  unfolding cubic_slope
  cubic-more e k = rw (ne_eqb n 2 e)

  pub cubic-straight : n ≡ 2 → filled (λ (k : ℕ). secant ts ys 0) 2 l ≡ filled (cubic_slope ts ys n) n l
  cubic-straight e = filled_same_as (λ (k : ℕ). secant ts ys 0) (cubic_slope ts ys n) 2 n l (sym e) (cubic-two e)

  pub cubic-many : (n ≡ 2 → ⊥) → 0 < n → filled (bent ts ys (n - 1)) (n - 1 + 1) l ≡ filled (cubic_slope ts ys n) n l
  cubic-many e h = let g : n - 1 + 1 ≡ n = omega arith in filled_same_as (bent ts ys (n - 1)) (cubic_slope ts ys n) (n - 1 + 1) n l g (cubic-more e)
