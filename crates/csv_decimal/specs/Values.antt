-- LAWS. The size in millionths of a number, from its value and from the fields of its pattern. Assumes nothing.
use Rattle.std.specs.Prelude.{◌≡◌, refl, Bool, true, false, not, cond, T, leb, eqb, Float}
use Rattle.std.proofs.Common.{sym, ap, ◌∙◌, subst, arith, eqb→eq, lit<, lit≤, pow-add, pow_pos, pow_mono}
use Prim.Native.Nat.{ℕ, zero, suc, ◌+◌, ◌-◌, ◌*◌, ◌/◌, ◌%◌, ◌^◌, ◌≤◌, ◌<◌, min, compare}
use native.Mathlib.Nat.{le_trans, le_of_eq, le_of_lt, lt_of_le_of_lt, mul_assoc, mul_right_comm, mul-one, zero-mul, mul-le-mul, mul-le-mul_right}
use native.Mathlib.Nat.{le-div_iff_mul-le, add_comm}
use Rattle.std.proofs.Math.Dec.{not_T}
use Rattle.std.proofs.Math.Pow.{field}
use Rattle.std.specs.Float.{nan, inf, fin, binary64}
use Rattle.std.specs.Float.Ieee.{up, down, odd, of_fields, of_bits}
use Rattle.std.specs.Float.Ieee.Fits.{down_pos}
use Rattle.std.specs.Float.Ieee.Bits.{cond_no}
use Rattle.std.specs.Float.Ieee.Exact.{HasValue, odd_sign}
use Rattle.std.specs.Float.Ieee.Nearest.{closest, closest_same, nearest-ge}
use Rattle.csv_decimal.specs.Decimal.{millionths}
use Rattle.csv_decimal.specs.Near.{closest_above}

-- ---- from the value
pub of_value : (y : Float) (s : Bool) (a c : ℕ) → 0 < c → HasValue y s a c → millionths y ≡ min (closest (a * 1000000) c) 1000000000000000
unfolding millionths
of_value nan s a c p v = absurd v
of_value (inf t) s a c p v = absurd v
of_value (fin t m e) s a c p v =
    ap (λ (z : ℕ). min z 1000000000000000)
    (closest_same (m * up e * 1000000) (down e) (a * 1000000) c (down_pos e) p
    (mul_right_comm (m * up e) 1000000 c ∙ ap (λ (z : ℕ). z * 1000000) v.1 ∙ mul_right_comm a (down e) 1000000))

-- ---- far below a millionth, and from 10 ^ 9 on
tiny : (a c : ℕ) → a * 1000000 * 2 < c → closest (a * 1000000) c ≡ 0
tiny a c h = closest_above (a * 1000000) c 0 (omega (arith, zero-mul c)) (omega (arith, zero-mul c))

pub huge : (a c : ℕ) → 0 < c → 1000000000000000 * c ≤ a * 1000000 → min (closest (a * 1000000) c) 1000000000000000 ≡ 1000000000000000
huge a c p h =
    let f : 1000000000000000 ≤ a * 1000000 / c = (le-div_iff_mul-le p).1 h in
    cap (closest (a * 1000000) c) (le_trans f (nearest-ge (a * 1000000 / c) (compare (a * 1000000 % c * 2) c)))
  where
    cap : (z : ℕ) → 1000000000000000 ≤ z → min z 1000000000000000 ≡ 1000000000000000
    cap z h = omega arith

pub nothing : (y : Float) (s : Bool) (a c : ℕ) → 0 < c → HasValue y s a c → a * 1000000 * 2 < c → millionths y ≡ 0
nothing y s a c p v h = of_value y s a c p v ∙ ap (λ (z : ℕ). min z 1000000000000000) (tiny a c h)

-- ---- from the fields
not_ones : (x : ℕ) → suc x < 2047 → T (not (eqb (suc x) 2047))
not_ones x h = not_T (eqb (suc x) 2047) (λ t. native.Mathlib.Nat.lt_irrefl 2047 (subst (λ (y : ℕ). y < 2047) (eqb→eq (suc x) 2047 t) h))

at_low : (s : Bool) (t : ℕ) → HasValue (of_fields binary64 s 0 t) s (t * 2 ^ 0) (2 ^ 1074)
unfolding of_fields
at_low s t = odd_sign 53 s t 0 1074

at-normal : (s : Bool) (x t : ℕ) → suc x < 2047 → HasValue (of_fields binary64 s (suc x) t) s ((2 ^ 52 + t) * 2 ^ x) (2 ^ 1074)
unfolding of_fields
at-normal s x t h =
    subst (λ (y : Float). HasValue y s ((2 ^ 52 + t) * 2 ^ x) (2 ^ 1074))
    (sym (cond_no (eqb (suc x) 2047) (cond (eqb t 0) (inf s) nan) (odd 53 s (2 ^ 52 + t) x 1074) (not_ones x h)))
    (odd_sign 53 s (2 ^ 52 + t) x 1074)

under : (a : ℕ) → a ≤ 2 ^ 1052 → a * 1000000 * 2 < 2 ^ 1074
under a h = lt_of_le_of_lt (mul-le-mul_right 2 (mul-le-mul_right 1000000 h)) (lit< tt)

pub low-fields : (s : Bool) (x t : ℕ) → t < 2 ^ 52 → x ≤ 1000 → millionths (of_fields binary64 s x t) ≡ 0
low-fields s zero t h l =
    nothing (of_fields binary64 s 0 t) s (t * 2 ^ 0) (2 ^ 1074) (pow_pos 1074) (at_low s t)
    (under (t * 2 ^ 0) (le_trans (le_of_eq (mul-one t)) (le_trans (le_of_lt h) (lit≤ tt))))
low-fields s (suc x) t h l =
    nothing (of_fields binary64 s (suc x) t) s ((2 ^ 52 + t) * 2 ^ x) (2 ^ 1074) (pow_pos 1074) (at-normal s x t (omega arith))
    (under ((2 ^ 52 + t) * 2 ^ x) (le_trans (mul-le-mul (narrow t h) (pow_mono {i = x} {j = 999} (omega arith))) (lit≤ tt)))
  where
    narrow : (t : ℕ) → t < 2 ^ 52 → 2 ^ 52 + t ≤ 2 ^ 53
    narrow t h = omega arith

pub mid-fields : (s : Bool) (x t : ℕ) → 1000 < x → x < 1053
    → millionths (of_fields binary64 s x t) ≡ min (closest ((t + 2 ^ 52) * 1000000) (2 ^ (1075 - x))) 1000000000000000
mid-fields s zero t l h = absurd (omega arith)
mid-fields s (suc x) t l h =
    let M = 2 ^ 52 + t in
    let e : 2 ^ x * 2 ^ (1075 - suc x) ≡ 2 ^ 1074 = sym (pow-add 2 x (1075 - suc x)) ∙ ap (λ (z : ℕ). 2 ^ z) (whole x h) in
    of_value (of_fields binary64 s (suc x) t) s (M * 2 ^ x) (2 ^ 1074) (pow_pos 1074) (at-normal s x t (omega arith))
    ∙ ap (λ (z : ℕ). min z 1000000000000000)
    (closest_same (M * 2 ^ x * 1000000) (2 ^ 1074) (M * 1000000) (2 ^ (1075 - suc x)) (pow_pos 1074) (pow_pos (1075 - suc x))
    (ap (λ (z : ℕ). z * 2 ^ (1075 - suc x)) (mul_right_comm M (2 ^ x) 1000000)
    ∙ mul_assoc (M * 1000000) (2 ^ x) (2 ^ (1075 - suc x))
    ∙ ap (λ (z : ℕ). M * 1000000 * z) e)
    ∙ ap (λ (z : ℕ). closest (z * 1000000) (2 ^ (1075 - suc x))) (add_comm (2 ^ 52) t))
  where
    whole : (x : ℕ) → suc x < 1053 → x + (1075 - suc x) ≡ 1074
    whole x h = omega arith

top : (s : Bool) (t y : ℕ) → y ≡ 2047 → millionths (of_fields binary64 s y t) ≡ 1000000000000000
unfolding of_fields millionths
top s t y e = ap (λ (z : ℕ). millionths (of_fields binary64 s z t)) e ∙ pick (eqb t 0)
  where
    pick : (b : Bool) → millionths (cond b (inf s) nan) ≡ 1000000000000000
    pick true = refl
    pick false = refl

pub high-fields : (s : Bool) (x t : ℕ) → 1053 ≤ x → x < 2048 → millionths (of_fields binary64 s x t) ≡ 1000000000000000
high-fields s zero t l h = absurd (omega arith)
high-fields s (suc x) t l h = go (native.Mathlib.Decide.dec_lt (suc x) 2047)
  where
    wide : (t : ℕ) → 2 ^ 52 ≤ 2 ^ 52 + t
    wide t = omega arith

    reach : 1000000000000000 * 2 ^ 1074 ≤ (2 ^ 52 + t) * 2 ^ x * 1000000
    reach =
        le_trans (lit≤ {m = 1000000000000000 * 2 ^ 1074} {n = 2 ^ 52 * 2 ^ 1052 * 1000000} tt)
        (mul-le-mul_right 1000000 (mul-le-mul (wide t) (pow_mono {i = 1052} {j = x} (omega arith))))

    go : Dec (suc x < 2047) → millionths (of_fields binary64 s (suc x) t) ≡ 1000000000000000
    go (yes n) =
        of_value (of_fields binary64 s (suc x) t) s ((2 ^ 52 + t) * 2 ^ x) (2 ^ 1074) (pow_pos 1074) (at-normal s x t n)
        ∙ huge ((2 ^ 52 + t) * 2 ^ x) (2 ^ 1074) (pow_pos 1074) reach
    go (no n) = top s t (suc x) (omega arith)

-- ---- from the pattern
pub by-fields : (b : ℕ) → of_bits binary64 b ≡ of_fields binary64 (leb (2 ^ 63) b) (b / 2 ^ 52 % 2048) (b % 2 ^ 52)
unfolding of_bits
by-fields b = ap (λ (z : ℕ). of_fields binary64 (leb (2 ^ 63) b) z (b % 2 ^ 52)) (field b 11 52)
