-- LAWS. Numbers put one after another, and four of them raised. Assumes nothing.
use Rattle.std.specs.Prelude.{◌≡◌, refl, List, ℕ, ◌+◌, ◌<◌, length, set, Float}
use Rattle.std.proofs.Common.{sym, ap, ◌∙◌, ⊎_elim, eq-or-lt_of_le, ne_of_gt, ne_of_lt, arith, length-set, get_or-set_same, get_or-set_other}
use Rattle.std.specs.Float.{nan}
use Rattle.floats.specs.Numbers.{at}
use Rattle.bspline_low.specs.Low.{mix_of}
use Rattle.bspline_raise.specs.Climb.{Put, Raised}

-- ---- numbers put one after another
module _ {f : ℕ → Float} {l : List Float} {i : ℕ} where
  pub put-none : Put f l l i 0
  put-none = record { same = refl; done = λ c h. absurd (omega arith); under = λ j h. refl; over = λ j h. refl }

  pub put-more : {xs : List Float} {n j : ℕ} {v : Float} → Put f l xs i n → j ≡ i + n → j < length l → v ≡ f n → Put f l (set xs j v) i (n + 1)
  put-more {xs} {n} {j} {v} p ej lt e = record {
    same = length-set xs j v ∙ p.same;
    done = λ c h. ⊎_elim
        (λ (ec : c ≡ n).
        let ei : i + c ≡ j = omega arith in
        ap (at (set xs j v)) ei ∙ get_or-set_same xs j v nan (omega (arith, p.same)) ∙ e ∙ ap f (sym ec))
        (λ (lc : c < n). get_or-set_other xs j (i + c) v nan (ne_of_lt (omega arith)) ∙ p.done c lc)
        (eq-or-lt_of_le {n = c} {m = n} (omega arith));
    under = λ k h. get_or-set_other xs j k v nan (ne_of_lt (omega arith)) ∙ p.under k h;
    over = λ k h. get_or-set_other xs j k v nan (ne_of_gt (omega arith)) ∙ p.over k (omega arith);
  }

-- ---- a row, by fours
pub four-put : (f : ℕ → Float) (l : List Float) (i : ℕ) {x0 x1 x2 x3 : Float} → i + 3 < length l → x0 ≡ f 0 → x1 ≡ f 1 → x2 ≡ f 2 → x3 ≡ f 3
    → Put f l (set (set (set (set l i x0) (i + 1) x1) (i + 2) x2) (i + 3) x3) i 4
four-put f l i h e0 e1 e2 e3 =
    let z : i ≡ i + 0 = omega arith in
    put-more (put-more (put-more (put-more put-none z (omega arith) e0) refl (omega arith) e1) refl (omega arith) e2) refl (omega arith) e3

pub four_raised : (l : List Float) (i wide : ℕ) (a : Float) {x0 x1 x2 x3 : Float} → i + wide + 3 < length l
    → x0 ≡ mix_of a (at l (i + wide)) (at l i) → x1 ≡ mix_of a (at l (i + wide + 1)) (at l (i + 1)) → x2 ≡ mix_of a (at l (i + wide + 2)) (at l (i + 2))
    → x3 ≡ mix_of a (at l (i + wide + 3)) (at l (i + 3))
    → Raised l (set (set (set (set l i x0) (i + 1) x1) (i + 2) x2) (i + 3) x3) i 4 wide a
four_raised l i wide a {x0} h e0 e1 e2 e3 =
    let z : i ≡ i + 0 = omega arith in
    let y : i + wide ≡ i + wide + 0 = omega arith in
    let mix : ℕ → ℕ → Float = λ (j k : ℕ). mix_of a (at l j) (at l k) in
    let first : x0 ≡ mix (i + wide + 0) (i + 0) = e0 ∙ ap (λ (j : ℕ). mix j i) y ∙ ap (mix (i + wide + 0)) z in
    record { is = four-put (λ c. mix_of a (at l (i + wide + c)) (at l (i + c))) l i (omega arith) first e1 e2 e3 }
