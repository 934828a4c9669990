-- LAWS. A number of points is a float, and the knot span of a parameter lies below the last knot. Assumes nothing.
use Rattle.std.specs.Prelude.{◌≡◌, refl, Bool, true, false, ◌&&◌, ◌||◌, cond, ℕ, ◌+◌, ◌-◌, ◌*◌, ◌/◌, ◌^◌, ◌<◌, ◌≤◌, T, ltb, eqb, pos, Float}
use Rattle.std.proofs.Common.{sym, ap, ◌∙◌, subst, true≢false, ⊎_elim, arith, le→leb, ltb-false, eq-eqb, lt-ltb}
use native.Mathlib.Nat.{mul-one, mul_right_comm, mul-le-mul_right, lt_of_mul-lt-mul_right, div-lt_iff_lt-mul}
use Rattle.std.specs.Float.Ieee as Ieee
use Rattle.std.specs.Float.{binary64, nan, inf, fin}
use Rattle.std.specs.Float.Ieee.{up, down, lt, le, eq}
use Rattle.std.specs.Float.Ieee.Fits.{down_pos}
use Rattle.std.specs.Float.Ieee.Exact.{HasValue}
use Rattle.floats.specs.Numbers.{of_nat}
use Rattle.floats.specs.FloatLaws.{whole-value}
use Rattle.layout.specs.Layout.{most_points}
use Rattle.whole.specs.Whole.{trunc_count}
use Rattle.bspline_tables.specs.Tables.{span_in}

pub whole_in : (n : ℕ) → n ≤ most_points → T (Ieee.in_float binary64 (pos n))
unfolding Ieee.in_float
whole_in n h = le→leb n 9007199254740992 (omega arith)

or_false : (a b : Bool) → (a || b) ≡ false → a ≡ false
or_false true b h = h
or_false false b h = refl

le_false : (a b : ℕ) → (ltb a b || (eqb a b && true)) ≡ false → b < a
le_false a b h =
    let x : b ≤ a = ltb-false a b (or_false (ltb a b) (eqb a b && true) h) in
    ⊎_elim (λ (e : b ≡ a). absurd (true≢false (sym (ap (λ (z : Bool). ltb a b || (z && true)) (eq-eqb a b (sym e)) ∙ last (ltb a b)) ∙ h))) (λ l. l)
    (native.Mathlib.Nat.eq-or-lt_of_le x)
  where
    last : (t : Bool) → (t || true) ≡ true
    last true = refl
    last false = refl

held : (b : Bool) (v s : ℕ) → 0 < s → v < s → cond b v 0 < s
held true v s p h = h
held false v s p h = p

small : (n d : ℕ) → n < most_points * d → 0 < d → ltb (n * 1) (4503599627370496 * 2 ^ 1 * d) ≡ true
small n d h p = lt-ltb (n * 1) (4503599627370496 * 2 ^ 1 * d) (omega arith)

below : (s : ℕ) (y u : Float) → 0 < s → s ≤ most_points → HasValue y false s 1 → le y u ≡ false → trunc_count u < s
unfolding le lt eq trunc_count Ieee.of_bits
below s nan u p q v g = absurd v
below s (inf t) u p q v g = absurd v
below s (fin true m e) u p q v g = absurd (true≢false v.0)
below s (fin false m e) nan p q v g = p
below s (fin false m e) (inf true) p q v g = p
below s (fin false m e) (inf false) p q v g = absurd (true≢false g)
below s (fin false m e) (fin true n d) p q v g = p
below s (fin false m e) (fin false n d) p q v g =
    let a : n * up d * down e < m * up e * down d = le_false (m * up e * down d) (n * up d * down e) g in
    let b : m * up e * down d ≡ s * down d * down e = ap (λ (z : ℕ). z * down d) (sym (mul-one (m * up e)) ∙ v.1) ∙ mul_right_comm s (down e) (down d) in
    let l : n * up d < s * down d = lt_of_mul-lt-mul_right (down e) (subst (λ (z : ℕ). n * up d * down e < z) b a) in
    let k : n * up d / down d < s = (div-lt_iff_lt-mul (down_pos d)).1 l in
    let f : s * down d ≤ most_points * down d = mul-le-mul_right (down d) q in
    rw (small (n * up d) (down d) (omega arith) (down_pos d)) (held (ltb (0 * 1 * down d) (n * up d * 1)) (n * up d / down d) s p k)

pub in_span : (p n : ℕ) (hi u : Float) → p < n → n ≤ most_points → hi ≡ of_nat (n - p) → le hi u ≡ false → trunc_count u < n - p
in_span p n hi u h k e g = below (n - p) hi u (omega arith) (omega arith)
    (subst (λ (y : Float). HasValue y false (n - p) 1) (sym e) (whole-value (n - p) (omega arith))) g

pub span-in : (n p : ℕ) (u : Float) → p < n → n ≤ most_points → (p ≤ span_in n p u) × (span_in n p u < n)
unfolding span_in
span-in n p u h k = go (le (of_nat (n - p)) u) refl
  where
    go : (b : Bool) → le (of_nat (n - p)) u ≡ b → (p ≤ cond b (n - 1) (p + trunc_count u)) × (cond b (n - 1) (p + trunc_count u) < n)
    go true e = omega arith
    go false e = omega (arith, in_span p n (of_nat (n - p)) u h k refl e)
