-- LAWS. A number that refusal 3 lets pass is finite and of modest size; and when two numbers are equal, counting -0 as 0. Assumes nothing.
use Rattle.std.specs.Prelude.{ℕ, zero, suc, ◌+◌, ◌*◌, ◌/◌, ◌%◌, ◌^◌, ◌≤◌, ◌<◌, ◌≡◌, refl, Bool, true, false, T, leb, Float, pos}
use Rattle.std.proofs.Common.{sym, ◌∙◌, ap, subst, arith, le_trans, mul-le-mul_right, mul_right_comm, le_of_mul-le-mul_right, le_of_eq, zero-mul}
use Rattle.std.proofs.Common.{leb-true, eq-eqb, ne_eqb, pow_pos, pow-add, pow_mono}
use Rattle.std.specs.Bool.{beq}
use Rattle.std.proofs.Math.Bool.{or-true}
use Rattle.std.specs.Float.{nan, inf, fin, binary64}
use Rattle.std.specs.Float.Ieee.{hid, top, up, down, odd, of_fields, of_bits, fits, eq}
use Rattle.std.specs.Float.Ieee.Exact.{HasValue, odd_sign}
use Rattle.std.specs.Float.Ieee.Bits.{of_bits-to_bits, of_bits-fits}
use Rattle.floats.specs.Numbers.{num, bits}
use Rattle.floats.specs.FloatLaws.{tidy, modest}
use Rattle.row_numbers.specs.RowNumbers.{within}
use Rattle.floats.specs.Truth.{cond-f}

value-modest : (y : Float) (s : Bool) (a c : ℕ) → HasValue y s a c → 0 < c → a ≤ 2 ^ 50 * c → modest y
value-modest nan s a c v p h = absurd v
value-modest (inf t) s a c v p h = absurd v
value-modest (fin t m e) s a c v p h =
    le_of_mul-le-mul_right {m = m * up e} {n = 2 ^ 50 * down e} {k = c}
    (le_trans (le_of_eq v.1) (le_trans (mul-le-mul_right (down e) h) (le_of_eq (mul_right_comm (2 ^ 50) c (down e)))))
    p

odd_modest : (d : ℕ) (s : Bool) (q k l : ℕ) → q ≤ 2 ^ 53 → k + 3 ≤ l → modest (odd d s q k l)
odd_modest d s q k l h g =
    value-modest (odd d s q k l) s (q * 2 ^ k) (2 ^ l) (odd_sign d s q k l) (pow_pos l)
    (le_trans (mul-le-mul_right (2 ^ k) h)
    (le_trans (le_of_eq (sym (pow-add 2 53 k)))
    (le_trans (pow_mono {i = 53 + k} {j = 50 + l} (omega arith)) (le_of_eq (pow-add 2 50 l)))))

fields-modest : (s : Bool) (x t : ℕ) → x ≤ 1052 → t < 2 ^ 52 → modest (of_fields binary64 s x t)
unfolding of_fields
fields-modest s zero t h g = odd_modest 53 s t 0 1074 (omega arith) (omega arith)
fields-modest s (suc x) t h g =
    subst modest (sym (cond-f _ (odd 53 s (hid binary64 + t) x 1074) (ne_eqb (suc x) 2047 (λ e. omega arith))))
    (odd_modest 53 s (hid binary64 + t) x 1074 (omega arith) (omega arith))

pub in_range : (x : ℕ) → within x ≡ true → modest (num x)
unfolding of_bits within
in_range x h =
    let g : x % 0x8000000000000000 ≤ 0x41CDCD6500000000 = leb-true _ _ h in
    fields-modest (leb (top binary64) x) (x % 0x8000000000000000 / 0x10000000000000) (x % 0x10000000000000) (omega arith) (omega arith)

-- ---- equal numbers
eq_self : (x : Float) → modest x → eq x x ≡ true
unfolding eq
eq_self nan m = absurd m
eq_self (inf s) m = absurd m
eq_self (fin true n e) m = rw (eq-eqb (n * up e * down e) (n * up e * down e) refl)
eq_self (fin false n e) m = rw (eq-eqb (n * up e * down e) (n * up e * down e) refl)

never : {x y : Float} → x ≡ y → (x ≡ y → ◌≡◌ {A = ℕ} 0 1) → ⊥
never e f = let z : ◌≡◌ {A = ℕ} 0 1 = f e in omega arith

pub tidy_eq : (x y : Float) → tidy x ≡ tidy y → modest y → eq x y ≡ true
unfolding eq
tidy_eq x nan p m = absurd m
tidy_eq x (inf s) p m = absurd m
tidy_eq nan (fin s zero e) p m = absurd (never p (λ (q : nan ≡ fin false zero (pos 0)). cc))
tidy_eq nan (fin s (suc k) e) p m = absurd (never p (λ (q : nan ≡ fin s (suc k) e). cc))
tidy_eq (inf t) (fin s zero e) p m = absurd (never p (λ (q : inf t ≡ fin false zero (pos 0)). cc))
tidy_eq (inf t) (fin s (suc k) e) p m = absurd (never p (λ (q : inf t ≡ fin s (suc k) e). cc))
tidy_eq (fin t zero d) (fin s zero e) p m =
    let a : zero * up d * down e ≡ 0 = ap (λ (n : ℕ). n * down e) (zero-mul (up d)) ∙ zero-mul (down e) in
    let b : zero * up e * down d ≡ 0 = ap (λ (n : ℕ). n * down d) (zero-mul (up e)) ∙ zero-mul (down d) in
    rw (a, b) (or-true (beq t s))
tidy_eq (fin t zero d) (fin s (suc k) e) p m = absurd (never p (λ (q : fin false zero (pos 0) ≡ fin s (suc k) e). cc))
tidy_eq (fin t (suc n) d) (fin s zero e) p m = absurd (never p (λ (q : fin t (suc n) d ≡ fin false zero (pos 0)). cc))
tidy_eq (fin t (suc n) d) (fin s (suc k) e) p m = subst (λ (z : Float). eq z (fin s (suc k) e) ≡ true) (sym p) (eq_self (fin s (suc k) e) m)

-- a number written as bits and read again
pub num-bits : (x : Float) → T (fits binary64 x) → num (bits x) ≡ x
num-bits x f = of_bits-to_bits binary64 x f

num-again : (v : ℕ) → num (bits (num v)) ≡ num v
num-again v = num-bits (num v) (of_bits-fits binary64 v)

pub shown-same : (v : ℕ) → within v ≡ true → eq (num v) (num v) ≡ true
shown-same v h = eq_self (num v) (in_range v h)

pub shown-bits : (v : ℕ) → within v ≡ true → eq (num (bits (num v))) (num v) ≡ true
shown-bits v h = ap (λ (x : Float). eq x (num v)) (num-again v) ∙ shown-same v h
