-- LAWS. The answers of the readers, case by case. Assumes nothing.
use Rattle.std.specs.Prelude.{◌≡◌, refl, ℕ, ◌+◌, ◌-◌, ◌*◌, ◌^◌, ◌≤◌, ◌<◌, Bool, true, false, cond, List, [], ◌∷◌, length, take, get_or, Float, Option, Some}
use Rattle.std.specs.Prelude.{None}
use Rattle.std.proofs.Math.Path.{ap}
use Rattle.std.proofs.Common.{◌∙◌, arith, add-one, length-drop, take_all}
use lib.Dec.{eqb}
use Rattle.std.proofs.Math.ListN.{drop}
use borrow.Author.Tests.{lt-ltb, le-ltb, eq-eqb, ne_eqb}
use Rattle.layout.specs.Layout.{line_numbers}
use Rattle.csv_decimal.specs.Decimal.{quotient}
use Rattle.csv_fields.specs.Read.{run, num, fraction, unsigned, number, line_number}
use Rattle.csv_fields.specs.Scans.{run-most, run_length_lem, num-low}

-- the part of a slice from a place on
pub tail-is : (t : List ℕ) (a : ℕ) → take (length t - a) (drop a t) ≡ drop a t
tail-is t a = take_all (length t - a) (drop a t) (native.Mathlib.Nat.le_of_eq (length-drop a t))

module _ (s : Bool) (n : ℕ) (t : List ℕ) (k v : ℕ) (e : k ≡ run 6 t) (w : v ≡ num n (take k t)) where
  pub frac_none : k ≡ 0 → None ≡ fraction s n t
  unfolding fraction
  frac_none z = rw (← e, eq-eqb k 0 z)

  pub frac_some : (k ≡ 0 → ⊥) → k ≡ length t → (x : Float) → x ≡ quotient s v k → Some x ≡ fraction s n t
  unfolding fraction
  frac_some z l x q = rw (← e, ne_eqb k 0 z, eq-eqb k (length t) l, ← w) (ap Some q)

  pub frac_more : (k ≡ 0 → ⊥) → (k ≡ length t → ⊥) → None ≡ fraction s n t
  unfolding fraction
  frac_more z l = rw (← e, ne_eqb k 0 z, ne_eqb k (length t) l)

pub frac_few : (t : List ℕ) (k : ℕ) → k ≡ run 6 t → k < 10
frac_few t k e = let h = run-most 6 t in omega arith

module _ (s : Bool) (t : List ℕ) (k v : ℕ) (e : k ≡ run 9 t) (w : v ≡ num 0 (take k t)) where
  pub uns_none : k ≡ 0 → None ≡ unsigned s t
  unfolding unsigned
  uns_none z = rw (← e, eq-eqb k 0 z)

  pub uns_whole : (k ≡ 0 → ⊥) → k ≡ length t → (x : Float) → x ≡ quotient s v 0 → Some x ≡ unsigned s t
  unfolding unsigned
  uns_whole z l x q = rw (← e, ne_eqb k 0 z, eq-eqb k (length t) l, ← w) (ap Some q)

  pub uns_point : (k ≡ 0 → ⊥) → (k ≡ length t → ⊥) → get_or t k 0 ≡ 46 → (r : Option Float) → r ≡ fraction s v (take (length t - (k + 1)) (drop (k + 1) t))
      → r ≡ unsigned s t
  unfolding unsigned
  uns_point z l p r q =
      rw (← e, ne_eqb k 0 z, ne_eqb k (length t) l, eq-eqb (get_or t k 0) 46 p, ← w)
      (q ∙ ap (fraction s v) (tail-is t (k + 1) ∙ ap (λ (i : ℕ). drop i t) (add-one k)))

  pub uns_other : (k ≡ 0 → ⊥) → (k ≡ length t → ⊥) → (get_or t k 0 ≡ 46 → ⊥) → None ≡ unsigned s t
  unfolding unsigned
  uns_other z l p = rw (← e, ne_eqb k 0 z, ne_eqb k (length t) l, ne_eqb (get_or t k 0) 46 p)

pub uns_inside : (t : List ℕ) (k : ℕ) → k ≡ run 9 t → (k ≡ length t → ⊥) → k < length t
uns_inside t k e l = let h = run_length_lem 9 t in omega arith

pub uns_low : (t : List ℕ) (k v : ℕ) → k ≡ run 9 t → v ≡ num 0 (take k t) → v < 1000000000
uns_low t k v e w =
    let h : num 0 (take (run 9 t) t) < 1 * 10 ^ run 9 t = num-low 9 t 0 1 (lib.Dec.lit< tt) in
    let p : 10 ^ run 9 t ≤ 10 ^ 9 = native.Mathlib.Nat.pow-le-pow_right (lib.Dec.lit< {m = 0} {n = 10} tt) (run-most 9 t) in
    let q : v ≡ num 0 (take (run 9 t) t) = w ∙ ap (λ (i : ℕ). num 0 (take i t)) e in
    omega arith

pub nothing : (t : List ℕ) → length t ≡ 0 → None ≡ number t
unfolding number unsigned fraction run num
nothing [] h = refl
nothing (c ∷ t) h = absurd (omega arith)

pub minus_in : (t : List ℕ) → get_or t 0 0 ≡ 45 → (r : Option Float) → r ≡ unsigned true (take (length t - 1) (drop 1 t)) → r ≡ number t
unfolding number
minus_in t h r q = rw (eq-eqb (get_or t 0 0) 45 h) (q ∙ ap (unsigned true) (tail-is t 1))

pub no_minus : (t : List ℕ) → (get_or t 0 0 ≡ 45 → ⊥) → (r : Option Float) → r ≡ unsigned false t → r ≡ number t
unfolding number
no_minus t h r q = rw (ne_eqb (get_or t 0 0) 45 h) q

-- what stands behind the sign, where there is one
pub signed : (t : List ℕ) (m : Bool) (a : ℕ) → m ≡ eqb (get_or t 0 0) 45 → a ≡ cond m 1 0 → (r : Option Float) → r ≡ unsigned m (take (length t - a) (drop a t))
    → r ≡ number t
unfolding number
signed t m a e w r q = q ∙ ap (unsigned m) (tail-is t a) ∙ go m e w
  where
    go : (m : Bool) → m ≡ eqb (get_or t 0 0) 45 → a ≡ cond m 1 0
        → unsigned m (drop a t) ≡ cond (eqb (get_or t 0 0) 45) (unsigned true (drop 1 t)) (unsigned false t)
    go true e w = rw (← e) (ap (λ (k : ℕ). unsigned true (drop k t)) w)
    go false e w = rw (← e) (ap (λ (k : ℕ). unsigned false (drop k t)) w)

module _ (t : List ℕ) (k v : ℕ) (e : k ≡ run 10 t) (w : v ≡ num 0 (take k t)) where
  pub line-none : k ≡ 0 → None ≡ line_number t
  unfolding line_number
  line-none z = rw (← e, eq-eqb k 0 z)

  pub line_at : (k ≡ 0 → ⊥) → k ≡ length t → v < line_numbers → Some v ≡ line_number t
  unfolding line_number
  line_at z l h = rw (← e, ne_eqb k 0 z, eq-eqb k (length t) l, ← w, lt-ltb v line_numbers h)

  pub line-high : (k ≡ 0 → ⊥) → k ≡ length t → line_numbers ≤ v → None ≡ line_number t
  unfolding line_number
  line-high z l h = rw (← e, ne_eqb k 0 z, eq-eqb k (length t) l, ← w, le-ltb v line_numbers h)

  pub line-more : (k ≡ 0 → ⊥) → (k ≡ length t → ⊥) → None ≡ line_number t
  unfolding line_number
  line-more z l = rw (← e, ne_eqb k 0 z, ne_eqb k (length t) l)
