-- LAWS. The root of a number above 0 by its size in units of the smallest value: the bits of `sqrt`'s result, and what a pattern's size is. Assumes nothing.
use Rattle.std.specs.Prelude.{◌≡◌, ℕ, zero, suc, ◌+◌, ◌-◌, ◌*◌, ◌/◌, ◌%◌, ◌^◌, ◌≤◌, ◌<◌, Bool, false, not, cond, T, leb, eqb, Float}
use Rattle.std.proofs.Common.{sym, ap, ◌∙◌, subst, le_trans, le_of_eq, lt_of_lt_of_le, lt_of_le_of_lt, lt_irrefl, zero-mul, zero-add, mul-one}
use Rattle.std.proofs.Common.{mul_assoc, mul-pos, mul-le-mul_right, mul-div_cancel, mod-eq_of_lt, arith, eqb→eq, pow-add, pow_pos, pow_mono, shl_lt}
use Rattle.std.proofs.Math.Dec.{not_T}
use Rattle.std.proofs.Math.Arith.{lt→nleb}
use Rattle.std.specs.Float.{nan, inf, fin, binary64}
use Rattle.std.specs.Float.Ieee.{up, down, size, units, odd, of_fields, of_bits, to_bits}
use Rattle.std.specs.Float.Ieee.Digits.{size-lt, size-le}
use Rattle.std.specs.Float.Ieee.Fits.{down_pos}
use Rattle.std.specs.Float.Ieee.Bits.{is_false, cond_no}
use Rattle.std.specs.Float.Ieee.Exact.{HasValue, odd_sign, units_val}
use Rattle.root_near.specs.Nearest.{Nearest}
use Rattle.root_near.specs.OneNearest.{root_lo, root_hi}
use Rattle.root.specs.Root.{root_units, sqrt}
use Rattle.root.proofs.Rounded.{root-units, pow_lt_back}

-- ---- the root, from the size

pub sqrt_of_value : (x : Float) (a : ℕ) → 0 < a → HasValue x false a (2 ^ 1074) → sqrt binary64 x ≡ root_units binary64 (a * 2 ^ 1074)
unfolding sqrt
sqrt_of_value nan a p v = absurd v
sqrt_of_value (inf s) a p v = absurd v
sqrt_of_value (fin t zero e) a p v = absurd (lt_irrefl 0
    (subst (λ (y : ℕ). 0 < y) (sym v.1 ∙ ap (λ (y : ℕ). y * 2 ^ 1074) (zero-mul (up e)) ∙ zero-mul (2 ^ 1074)) (mul-pos p (down_pos e))))
sqrt_of_value (fin t (suc m) e) a p v =
    ap (λ (s : Bool). cond s nan (root_units binary64 (suc m * up e * 2 ^ 1074 / down e * 2 ^ 1074))) v.0
    ∙ ap (λ (y : ℕ). root_units binary64 (y / down e * 2 ^ 1074)) v.1
    ∙ ap (λ (y : ℕ). root_units binary64 (y * 2 ^ 1074)) (mul-div_cancel a (down_pos e))

-- ---- the bits, from the size

abbrev written : Bool → ℕ → ℕ
written s n = cond s (2 ^ 63) 0 + (size n - 53) * 2 ^ 52 + n / 2 ^ (size n - 53)

to_bits_of_value : (x : Float) (a : ℕ) → HasValue x false a (2 ^ 1074) → to_bits binary64 x ≡ written false a
unfolding to_bits
to_bits_of_value nan a v = absurd v
to_bits_of_value (inf s) a v = absurd v
to_bits_of_value (fin t m e) a v =
    ap (λ (s : Bool). written s (m * up e * 2 ^ 1074 / down e)) v.0
    ∙ ap (λ (y : ℕ). written false (y / down e)) v.1
    ∙ ap (λ (y : ℕ). written false y) (mul-div_cancel a (down_pos e))

dropped : (z k : ℕ) → 52 + k < z → z ≤ 53 + k → z - 53 ≡ k
dropped z k a b = omega arith

pub bits_of_units : (R k : ℕ) → 2 ^ 52 ≤ R → R < 2 ^ 53 → k ≤ 2000 → to_bits binary64 (units binary64 false R k) ≡ k * 2 ^ 52 + R
bits_of_units R k lo hi l =
    let a = R * 2 ^ k in
    let fine : a < 2 ^ 2098 = lt_of_lt_of_le (shl_lt 53 k hi) (pow_mono {i = 53 + k} {j = 2098} (omega arith)) in
    let d : size a - 53 ≡ k = dropped (size a) k
    (pow_lt_back (52 + k) (size a) (lt_of_le_of_lt (le_trans (le_of_eq (pow-add 2 52 k)) (mul-le-mul_right (2 ^ k) lo)) (size-lt a)))
    (size-le a (53 + k) (shl_lt 53 k hi)) in
    to_bits_of_value (units binary64 false R k) a (units_val binary64 false R k fine)
    ∙ ap (λ (j : ℕ). 0 + j * 2 ^ 52 + a / 2 ^ j) d
    ∙ ap (λ (y : ℕ). y + a / 2 ^ k) (zero-add (k * 2 ^ 52))
    ∙ ap (λ (y : ℕ). k * 2 ^ 52 + y) (mul-div_cancel R (pow_pos k))

-- ---- together: the bits of the root of a number of a units, where a * 2 ^ 1074 is M * 2 ^ 52 times an even power of two

pub root_pattern : (x : Float) (a M k R : ℕ) → HasValue x false a (2 ^ 1074) → 0 < a → a * 2 ^ 1074 ≡ M * 2 ^ 52 * (2 ^ k * 2 ^ k) → 2 ^ 52 ≤ M
    → M + 2 ≤ 2 ^ 54 → k ≤ 2000 → Nearest M R
    → k * 2 ^ 52 + R ≡ to_bits binary64 (sqrt binary64 x)
root_pattern x a M k R v p e lo hi l n =
    let M-lt : M < 2 ^ 54 = omega arith in
    sym (ap (to_bits binary64) (sqrt_of_value x a p v ∙ ap (root_units binary64) e ∙ root-units M k R lo M-lt n)
    ∙ bits_of_units R k (root_lo M R lo n) (root_hi M R hi n) l)

-- ---- what a pattern's size is

pub fields : (b : ℕ) → b < 2 ^ 63 → of_bits binary64 b ≡ of_fields binary64 false (b / 2 ^ 52) (b % 2 ^ 52)
unfolding of_bits
fields b h =
    ap (λ (s : Bool). of_fields binary64 s (b % 2 ^ 63 / 2 ^ 52) (b % 2 ^ 52)) (is_false (leb (2 ^ 63) b) (lt→nleb (2 ^ 63) b h))
    ∙ ap (λ (y : ℕ). of_fields binary64 false (y / 2 ^ 52) (b % 2 ^ 52)) (mod-eq_of_lt h)

at_low : (t : ℕ) → HasValue (of_fields binary64 false 0 t) false (t * 2 ^ 0) (2 ^ 1074)
unfolding of_fields
at_low t = odd_sign 53 false t 0 1074

not_ones : (x : ℕ) → suc x < 2047 → T (not (eqb (suc x) 2047))
not_ones x h = not_T (eqb (suc x) 2047) (λ t. lt_irrefl 2047 (subst (λ (y : ℕ). y < 2047) (eqb→eq (suc x) 2047 t) h))

at-normal : (x t : ℕ) → suc x < 2047 → HasValue (of_fields binary64 false (suc x) t) false ((2 ^ 52 + t) * 2 ^ x) (2 ^ 1074)
unfolding of_fields
at-normal x t h =
    subst (λ (y : Float). HasValue y false ((2 ^ 52 + t) * 2 ^ x) (2 ^ 1074))
    (sym (cond_no (eqb (suc x) 2047) (cond (eqb t 0) (inf false) nan) (odd 53 false (2 ^ 52 + t) x 1074) (not_ones x h)))
    (odd_sign 53 false (2 ^ 52 + t) x 1074)

pub low_value : (b : ℕ) → b < 2 ^ 52 → HasValue (of_bits binary64 b) false b (2 ^ 1074)
low_value b h =
    let z : b / 2 ^ 52 ≡ 0 = omega arith in
    let r : b % 2 ^ 52 ≡ b = omega arith in
    subst (λ (y : Float). HasValue y false b (2 ^ 1074))
    (sym (fields b (omega arith) ∙ ap (λ (y : ℕ). of_fields binary64 false y (b % 2 ^ 52)) z ∙ ap (λ (y : ℕ). of_fields binary64 false 0 y) r))
    (subst (λ (y : ℕ). HasValue (of_fields binary64 false 0 b) false y (2 ^ 1074)) (mul-one b) (at_low b))

pub normal-value : (b : ℕ) → 2 ^ 52 ≤ b → b < 2047 * 2 ^ 52 → HasValue (of_bits binary64 b) false ((2 ^ 52 + b % 2 ^ 52) * 2 ^ (b / 2 ^ 52 - 1)) (2 ^ 1074)
normal-value b lo hi =
    let x = b / 2 ^ 52 - 1 in
    let z : b / 2 ^ 52 ≡ suc x = omega arith in
    subst (λ (y : Float). HasValue y false ((2 ^ 52 + b % 2 ^ 52) * 2 ^ x) (2 ^ 1074))
    (sym (fields b (omega arith) ∙ ap (λ (y : ℕ). of_fields binary64 false y (b % 2 ^ 52)) z))
    (at-normal x (b % 2 ^ 52) (omega arith))

-- F * 2 ^ i smallest values, times 2 ^ 1074, with the powers of two gathered
pub even_power : (F i j k : ℕ) → i + 1074 ≡ j + (k + k) → F * 2 ^ i * 2 ^ 1074 ≡ F * 2 ^ j * (2 ^ k * 2 ^ k)
even_power F i j k e =
    mul_assoc F (2 ^ i) (2 ^ 1074)
    ∙ ap (λ (y : ℕ). F * y) (sym (pow-add 2 i 1074) ∙ ap (λ (y : ℕ). 2 ^ y) e ∙ pow-add 2 j (k + k) ∙ ap (λ (y : ℕ). 2 ^ j * y) (pow-add 2 k k))
    ∙ sym (mul_assoc F (2 ^ j) (2 ^ k * 2 ^ k))
