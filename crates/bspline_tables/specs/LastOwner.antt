-- LAWS. The sample at the last parameter belongs to the last control point: every Greville value before is below it. Assumes nothing.
use Rattle.std.specs.Prelude.{Bool, true, ◌||◌, ◌&&◌, ◌⊎◌, ◌≡◌, ltb, eqb, Float}
use Rattle.std.proofs.Math.Bool.{false}
use Rattle.std.proofs.Common.{true≢false, inl, inr, ⊎_elim, ◌∙◌, subst, pow_pos, lt-ltb, ltb-true, eqb-true, ne_eqb}
use Rattle.std.proofs.Math.Path.{refl, sym, ap}
use Prim.Native.Nat.{ℕ, zero, suc, ◌+◌, ◌-◌, ◌*◌, ◌^◌, ◌≤◌, ◌<◌, min}
use native.Mathlib.Omega.{arith}
use native.Mathlib.Nat.{mul-one, mul_comm, mul_assoc, mul_right_comm, mul-pos, zero-lt-suc, mul-le-mul_right, mul-le-mul_left}
use native.Mathlib.Nat.{mul-lt-mul_of_pos_right, lt_of_mul-lt-mul_right, suc-mul}
use Rattle.std.proofs.Math.Dec.{T}
use Rattle.std.specs.Float.Ieee as Ieee
use Rattle.std.specs.Float.{nan, inf, fin}
use Rattle.std.specs.Float.Ieee.{binary64, up, down, round, lt, le, div}
use Rattle.std.specs.Float.Ieee.Fits.{down_pos, up_pos}
use Rattle.std.specs.Float.Ieee.Exact.{HasValue}
use Rattle.std.specs.Float.Ieee.Scale.{round_same}
use Rattle.std.specs.Float.Ieee.Order.{round_mono}
use Rattle.floats.specs.Numbers.{◌⊘◌, of_nat, at}
use Rattle.floats.specs.Fill.{at-upto}
use Rattle.floats.specs.FloatLaws.{whole-value, whole_add}
use Rattle.floats.specs.Dyadic.{dy, dy-value}
use Rattle.layout.specs.Layout.{most_points}
use Rattle.bspline_tables.specs.Basis.{Bspline, knots, knot_sum, greville, owner_from}

-- x ≤ y < z, for y and z not negative
or_cases : (a b : Bool) → T (a || b) → (a ≡ true) ⊎ (b ≡ true)
or_cases true b t = inl refl
or_cases false true t = inr refl
or_cases false false t = absurd t

le_nat : (a b : ℕ) (c : Bool) → T (ltb a b || (eqb a b && c)) → a ≤ b
le_nat a b c t = ⊎_elim (λ e. native.Mathlib.Nat.le_of_lt (ltb-true a b e)) (λ e. native.Mathlib.Nat.le_of_eq (eqb-true a b (first (eqb a b) c e)))
    (or_cases (ltb a b) (eqb a b && c) t)
  where
    first : (x y : Bool) → (x && y) ≡ true → x ≡ true
    first true y h = refl
    first false y h = h

cross : (X Y Z P Q R : ℕ) → 0 < Q → 0 < P → X * Q ≤ Y * P → Y * R < Z * Q → 0 < R → X * R < Z * P
cross X Y Z P Q R q p h k r =
    let a : X * Q * R ≤ Y * P * R = mul-le-mul_right R h in
    let b : Y * R * P < Z * Q * P = mul-lt-mul_of_pos_right k p in
    let c : X * Q * R ≡ X * R * Q = mul_right_comm X Q R in
    let d : Y * P * R ≡ Y * R * P = mul_right_comm Y P R in
    let e : Z * Q * P ≡ Z * P * Q = mul_right_comm Z Q P in
    lt_of_mul-lt-mul_right Q (omega arith)

-- x is a rounded fraction, which is never negative
pub le_lt : (x y z : Float) (a b c : ℕ) → HasValue y false a c → HasValue z false b c → 0 < c → a < b → 0 < b → T (le x y) → lt x z ≡ true
unfolding le lt
le_lt x nan z a b c p q C h k t = absurd p
le_lt x (inf s) z a b c p q C h k t = absurd p
le_lt x (fin true m e) z a b c p q C h k t = absurd (true≢false p.0)
le_lt x (fin false m e) nan a b c p q C h k t = absurd q
le_lt x (fin false m e) (inf s) a b c p q C h k t = absurd q
le_lt x (fin false m e) (fin true n d) a b c p q C h k t = absurd (true≢false q.0)
le_lt nan (fin false m e) (fin false n d) a b c p q C h k t = absurd t
le_lt (inf true) (fin false m e) (fin false n d) a b c p q C h k t = refl
le_lt (inf false) (fin false m e) (fin false n d) a b c p q C h k t = absurd t
le_lt (fin false i w) (fin false m e) (fin false n d) a b c p q C h k t =
    let x : i * up w * down e ≤ m * up e * down w = le_nat (i * up w * down e) (m * up e * down w) true t in
    let u : m * up e * down d * c ≡ a * (down e * down d) =
    mul_right_comm (m * up e) (down d) c ∙ ap (λ (z : ℕ). z * down d) p.1 ∙ mul_assoc a (down e) (down d) in
    let v : n * up d * down e * c ≡ b * (down e * down d) =
    mul_right_comm (n * up d) (down e) c ∙ ap (λ (z : ℕ). z * down e) q.1 ∙ mul_assoc b (down d) (down e)
    ∙ ap (λ (z : ℕ). b * z) (mul_comm (down d) (down e)) in
    let y : m * up e * down d < n * up d * down e =
    lt_of_mul-lt-mul_right c (subst (λ (z : ℕ). z < n * up d * down e * c) (sym u)
    (subst (λ (z : ℕ). a * (down e * down d) < z) (sym v) (mul-lt-mul_of_pos_right h (mul-pos (down_pos e) (down_pos d))))) in
    lt-ltb (i * up w * down d) (n * up d * down w)
    (cross (i * up w) (m * up e) (n * up d) (down w) (down e) (down d) (down_pos e) (down_pos w) x y (down_pos d))
le_lt (fin true i w) (fin false m e) (fin false n d) a b c p q C h k t =
    lt-ltb 0 (i * up w * down d + n * up d * down w) (some n q.1)
  where
    some : (n : ℕ) → n * up d * c ≡ b * down d → 0 < i * up w * down d + n * up d * down w
    some zero v = absurd (native.Mathlib.Nat.lt_irrefl 0 (subst (λ (z : ℕ). 0 < z) (sym v ∙ simp native.Mathlib.Nat.zero-mul) (mul-pos k (down_pos d))))
    some (suc n) v = omega (arith, mul-pos (mul-pos (zero-lt-suc n) (up_pos d)) (down_pos w))

div_of : (a b : ℕ) (x y : Float) → HasValue x false a 1 → HasValue y false b 1 → 0 < b → div binary64 x y ≡ round binary64 false a b
unfolding div
div_of a b nan y p q B = absurd p
div_of a b (inf s) y p q B = absurd p
div_of a b (fin true m e) y p q B = absurd (true≢false p.0)
div_of a b (fin false m e) nan p q B = absurd q
div_of a b (fin false m e) (inf s) p q B = absurd q
div_of a b (fin false m e) (fin true n d) p q B = absurd (true≢false q.0)
div_of a b (fin false m e) (fin false zero d) p q B =
    absurd (native.Mathlib.Nat.lt_irrefl 0 (subst (λ (z : ℕ). 0 < z) (sym q.1 ∙ simp native.Mathlib.Nat.zero-mul) (mul-pos B (down_pos d))))
div_of a b (fin false m e) (fin false (suc n) d) p q B =
    let u : m * up e ≡ a * down e = sym (mul-one (m * up e)) ∙ p.1 in
    let v : suc n * up d ≡ b * down d = sym (mul-one (suc n * up d)) ∙ q.1 in
    rw (ne_eqb (suc n) 0 (λ z. omega arith))
    (round_same binary64 false (m * up e * down d) (suc n * up d * down e) a b (mul-pos (mul-pos (zero-lt-suc n) (up_pos d)) (down_pos e)) B
    (rw (u, v) (simp (mul_assoc, mul_comm, native.Mathlib.Nat.mul_left_comm))))

pub knot-at : (n p i : ℕ) → i < n + p + 1 → at (knots n p) i ≡ of_nat (min (i - p) (n - p))
unfolding knots
knot-at n p i h = at-upto _ (n + p + 1) i nan h

-- no degree is above `parts`, a power of two: what is below a whole number by a part of the degree is below it by one of these
abbrev fine : ℕ
fine = 8

abbrev parts : ℕ
parts = 2 ^ fine

module _ (p n : ℕ) (some : 1 ≤ p) (under : p < n) (few : n ≤ most_points) where
  -- the sum of knots, as a whole number
  sum_n : ℕ → ℕ → ℕ
  sum_n i zero = 0
  sum_n i (suc k) = sum_n i k + min (i + 1 + k - p) (n - p)

  sum_n_le : (i k : ℕ) → sum_n i k ≤ k * (n - p)
  unfolding sum_n
  sum_n_le i zero = omega arith
  sum_n_le i (suc k) = omega (arith, sum_n_le i k, suc-mul k (n - p))

  sum_n-lt : (i k : ℕ) → 1 ≤ k → i + 1 < n → suc (sum_n i k) ≤ k * (n - p)
  unfolding sum_n
  sum_n-lt i zero h g = absurd (omega arith)
  sum_n-lt i (suc zero) h g = omega (arith, suc-mul 0 (n - p))
  sum_n-lt i (suc (suc k)) h g = omega (arith, sum_n-lt i (suc k) (omega arith) g, suc-mul (suc k) (n - p))

  sum_is : (i k : ℕ) → i < n → k ≤ p → knot_sum (knots n p) i k ≡ of_nat (sum_n i k)
  unfolding knot_sum sum_n Ieee.of_bits Ieee.of_int
  sum_is i zero h g = refl
  sum_is i (suc k) h g =
      let b : k * (n - p) ≤ k * most_points = mul-le-mul_left k (omega arith) in
      rw (sum_is i k h (omega arith), knot-at n p (i + 1 + k) (omega arith))
      (whole_add (sum_n i k) (min (i + 1 + k - p) (n - p)) (omega (arith, sum_n_le i k)) (omega arith))

  whole-up : (s : ℕ) → of_nat s ≡ dy (parts * s) fine
  unfolding Ieee.of_int dy
  whole-up s = round_same binary64 false s 1 (parts * s) parts (zero-lt-suc 0) (pow_pos fine) (mul_comm s parts ∙ sym (mul-one (parts * s)))

  under_it : (a s : ℕ) → suc a ≤ p * s → 1 ≤ s → a * parts ≤ (parts * s - 1) * p
  under_it a s h k =
      let e : parts * s - 1 + 1 ≡ parts * s = omega arith in
      let f : (parts * s - 1 + 1) * p ≡ (parts * s - 1) * p + 1 * p = native.Mathlib.Nat.add-mul (parts * s - 1) 1 p in
      let g : (parts * s - 1 + 1) * p ≡ parts * (p * s) = ap (λ (z : ℕ). z * p) e ∙ mul_assoc parts s p ∙ ap (λ (z : ℕ). parts * z) (mul_comm s p) in
      omega arith

  rounded_below : (a s : ℕ) → suc a ≤ p * s → 1 ≤ s → s ≤ most_points → lt (round binary64 false a p) (of_nat s) ≡ true
  rounded_below a s h k l =
      let m : T (le (round binary64 false a p) (round binary64 false (parts * s - 1) parts)) =
      round_mono binary64 a p (parts * s - 1) parts some (pow_pos fine) (under_it a s h k) in
      let y : round binary64 false (parts * s - 1) parts ≡ dy (parts * s - 1) fine = unfold dy in refl in
      ap (lt (round binary64 false a p)) (whole-up s)
      ∙ le_lt (round binary64 false a p) (dy (parts * s - 1) fine) (dy (parts * s) fine) (parts * s - 1) (parts * s) parts
      (dy-value (parts * s - 1) fine (omega arith) (omega arith)) (dy-value (parts * s) fine (omega arith) (omega arith))
      (pow_pos fine) (omega arith) (omega arith) (subst (λ (z : Float). T (le (round binary64 false a p) z)) y m)

  -- before the last, every Greville value is below the last parameter
  greville-below : (i : ℕ) → i + 1 < n → lt (knot_sum (knots n p) i p ⊘ of_nat p) (of_nat (n - p)) ≡ true
  greville-below i h =
      let b : p * (n - p) ≤ p * most_points = mul-le-mul_left p (omega arith) in
      let d : of_nat (sum_n i p) ⊘ of_nat p ≡ round binary64 false (sum_n i p) p =
      div_of (sum_n i p) p (of_nat (sum_n i p)) (of_nat p) (whole-value (sum_n i p) (omega (arith, sum_n_le i p))) (whole-value p (omega arith)) some in
      rw (sum_is i p (omega arith) (omega arith), d) (rounded_below (sum_n i p) (n - p) (sum_n-lt i p some h) (omega arith) (omega arith))

  greville-under : (b : Bspline) → b.power ≡ p → b.knot ≡ knots n p → (i : ℕ) → i + 1 < n → lt (greville b i) (of_nat (n - p)) ≡ true
  unfolding greville
  greville-under b ep ek i h = rw (ep, ek) (greville-below i h)

  all-on : (b : Bspline) → b.power ≡ p → b.knot ≡ knots n p → (left o : ℕ) → o + left ≤ n - 1 → owner_from b (of_nat (n - p)) left o ≡ o + left
  unfolding owner_from
  all-on b ep ek zero o h = omega arith
  all-on b ep ek (suc left) o h = rw (greville-under b ep ek o (omega arith)) (all-on b ep ek left (o + 1) (omega arith) ∙ omega arith)

  -- the sample at the last parameter belongs to the last control point
  pub last-owner : (b : Bspline) → b.power ≡ p → b.knot ≡ knots n p → (o : ℕ) → o ≤ n - 1 → owner_from b (of_nat (n - p)) (n - 1 - o) o ≡ n - 1
  last-owner b ep ek o h = all-on b ep ek (n - 1 - o) o (omega arith) ∙ omega arith
