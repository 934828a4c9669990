-- LAWS. The remainder by tau, of a number by its pattern: whole numbers times a power of two. Assumes nothing.
use Prim.Native.Nat.{ℕ, zero, suc, ◌+◌, ◌-◌, ◌*◌, ◌/◌, ◌%◌, ◌^◌, ◌≤◌, ◌<◌}
use mathlib.Core.Path.{◌≡◌, refl, sym, ap, ◌∙◌, subst}
use mathlib.Core.Bool.{Bool, true, false, not, cond}
use native.Mathlib.Nat.{mul_assoc, mul_comm, mul_right_comm, mul-one, mul-pos, mul-div_cancel, mul-mod_left, mod-eq_of_lt, mod-lt}
use native.Mathlib.Nat.{lt_irrefl, le_trans, le_of_lt, lt_of_lt_of_le}
use native.Mathlib.Omega.{arith}
use Rattle.std.proofs.Common.{lit<, lit≤}
use lib.Dec.{T, leb, eqb, eqb→eq, le→leb, not_T}
use lib.Arith.{mod-mul, lt→nleb}
use lib.IntN.{pos, negsuc}
use lib.Pow.{pow-add, pow_pos, pow_mono, shl_lt}
use lib.Ieee.{Float, nan, inf, fin, binary64, up, down, unlike, odd, round, of_fields, of_bits, to_bits, of_int, neg, mul, div, rem, fits}
use lib.Ieee.Fits.{down_pos}
use lib.Ieee.Bits.{is_true, is_false, cond_no, of_bits-to_bits}
use lib.Ieee.Back.{round_whole}
use lib.Ieee.Exact.{HasValue, odd_sign}
use lib.Ieee.Scale.{round_same}
use Rattle.std.proofs.lemmas.Nat.{mul-mod_first}
use Rattle.floats.specs.Numbers.{tau}
use Rattle.floats.specs.FloatLaws.{round_self}
use Rattle.trig.specs.Remainder.{tau_digits, left_by_tau}

-- ---- the loop

pub left-none : (digits : ℕ) → digits % tau_digits ≡ left_by_tau digits 0
left-none digits = ap (λ (z : ℕ). z % tau_digits) (sym (mul-one digits))

pub left-more : (digits n : ℕ) {r : ℕ} → r ≡ left_by_tau digits n → r * 2 % tau_digits ≡ left_by_tau digits (n + 1)
left-more digits n {r} e =
    ap (λ (z : ℕ). z * 2 % tau_digits) e
    ∙ mul-mod_first (digits * 2 ^ n) 2 tau_digits
    ∙ ap (λ (z : ℕ). z % tau_digits) (mul_assoc digits (2 ^ n) 2 ∙ ap (λ (z : ℕ). digits * z) (sym (pow-add 2 n 1)))

-- ---- remainders of multiples

mod_scale : (a b c : ℕ) → 0 < b → 0 < c → a * c % (b * c) ≡ a % b * c
mod_scale a b c B C =
    mod-mul (a * c) B C
    ∙ ap (λ (z : ℕ). z % b * c + a * c % c) (mul-div_cancel a C)
    ∙ ap (λ (z : ℕ). a % b * c + z) (mul-mod_left a c)
    ∙ omega arith

-- ---- a number of a units, 2 ^ -1074 each: tau is tau_digits * 2 ^ 1024 of them

abbrev units : ℕ
units = 2 ^ 1074

abbrev tau_units : ℕ
tau_units = tau_digits * 2 ^ 1024

-- tau in its one way: an odd number of 2 ^ -47
abbrev tau_odd : ℕ
tau_odd = 0x3_243f_6a88_85a3

tau-is : tau ≡ fin false tau_odd (negsuc 46)
unfolding of_bits
tau-is = refl

-- V / D is a / u, and k / w is t / u: what k leaves of V over D * w, and what t leaves of a over u
same_rest : (V D a w u k t : ℕ) → 0 < D → 0 < w → 0 < u → 0 < k → 0 < t → V * u ≡ a * D → k * u ≡ t * w → V * w % (k * D) * u ≡ a % t * (D * w)
same_rest V D a w u k t D' w' u' k' t' v h =
    let over : V * w * u ≡ a * (D * w) = mul_right_comm V w u ∙ ap (λ (z : ℕ). z * w) v ∙ mul_assoc a D w in
    let by : k * D * u ≡ t * (D * w) =
    mul_right_comm k D u ∙ ap (λ (z : ℕ). z * D) h ∙ mul_assoc t w D ∙ ap (λ (z : ℕ). t * z) (mul_comm w D) in
    sym (mod_scale (V * w) (k * D) u (mul-pos k' D') u')
    ∙ ap (λ (z : ℕ). z % (k * D * u)) over
    ∙ ap (λ (z : ℕ). a * (D * w) % z) by
    ∙ mod_scale a t (D * w) t' (mul-pos D' w')

rem_of_value : (x : Float) (s : Bool) (a : ℕ) → HasValue x s a units → rem binary64 x (fin false tau_odd (negsuc 46)) ≡ round binary64 s (a % tau_units) units
unfolding rem
rem_of_value nan s a v = absurd v
rem_of_value (inf t) s a v = absurd v
rem_of_value (fin t m e) s a v =
    ap (λ (z : Bool). round binary64 z (m * up e * 2 ^ 47 % (tau_odd * down e)) (down e * 2 ^ 47)) v.0
    ∙ round_same binary64 s (m * up e * 2 ^ 47 % (tau_odd * down e)) (down e * 2 ^ 47) (a % tau_units) units
    (mul-pos (down_pos e) (pow_pos 47)) (pow_pos 1074)
    (same_rest (m * up e) (down e) a (2 ^ 47) units tau_odd tau_units (down_pos e) (pow_pos 47) (pow_pos 1074) (lit< tt) (lit< tt) v.1 refl)

round_of_value : (x : Float) (s : Bool) (a : ℕ) → T (fits binary64 x) → HasValue x s a units → round binary64 s a units ≡ x
round_of_value nan s a h v = absurd v
round_of_value (inf t) s a h v = absurd v
round_of_value (fin t m e) s a h v =
    ap (λ (z : Bool). round binary64 z a units) (sym v.0) ∙ round_self binary64 t m e h a units (pow_pos 1074) (sym v.1)

-- ---- a pattern's fields

abbrev pub exponent : ℕ → ℕ
exponent b = b % 2 ^ 63 / 2 ^ 52

abbrev pub negative : ℕ → Bool
negative b = leb (2 ^ 63) b

-- of an exponent x, a sign s and the digits t below the leading one
not_ones : (x : ℕ) → suc x < 2047 → T (not (eqb (suc x) 2047))
not_ones x h = not_T (eqb (suc x) 2047) (λ t. lt_irrefl 2047 (subst (λ (y : ℕ). y < 2047) (eqb→eq (suc x) 2047 t) h))

value_of_fields : (s : Bool) (x t : ℕ) → suc x < 2047 → HasValue (of_fields binary64 s (suc x) t) s ((2 ^ 52 + t) * 2 ^ x) units
unfolding of_fields
value_of_fields s x t h =
    subst (λ (y : Float). HasValue y s ((2 ^ 52 + t) * 2 ^ x) units)
    (sym (cond_no (eqb (suc x) 2047) (cond (eqb t 0) (inf s) nan) (odd 53 s (2 ^ 52 + t) x 1074) (not_ones x h)))
    (odd_sign 53 s (2 ^ 52 + t) x 1074)

below_tau : (s : Bool) (x t : ℕ) → x < 1025 → t < 2 ^ 52 → (a : ℕ) × (HasValue (of_fields binary64 s x t) s a units) × (a < tau_units)
unfolding of_fields
below_tau s zero t h l = (t * 2 ^ 0, odd_sign 53 s t 0 1074, lt_of_lt_of_le (shl_lt 52 0 l) (lit≤ tt))
below_tau s (suc x) t h l =
    let few : 2 ^ 52 + t < 2 ^ 53 = omega arith in
    let far : 53 + x ≤ 1076 = omega arith in
    ((2 ^ 52 + t) * 2 ^ x, value_of_fields s x t (omega arith), lt_of_lt_of_le (shl_lt 53 x few) (le_trans (pow_mono far) (lit≤ tt)))

no_number : (s : Bool) (t : ℕ) → nan ≡ rem binary64 (of_fields binary64 s 2047 t) (fin false tau_odd (negsuc 46))
unfolding of_fields rem
no_number s t = go (eqb t 0)
  where
    go : (b : Bool) → nan ≡ rem binary64 (cond b (inf s) nan) (fin false tau_odd (negsuc 46))
    go true = refl
    go false = refl

above_tau : (s : Bool) (n t : ℕ) → suc (1024 + n) < 2047
    → rem binary64 (of_fields binary64 s (suc (1024 + n)) t) (fin false tau_odd (negsuc 46)) ≡ round binary64 s (left_by_tau (2 ^ 52 + t) n) (2 ^ 50)
above_tau s n t h =
    let d = 2 ^ 52 + t in
    let powers : d * 2 ^ (1024 + n) ≡ d * 2 ^ n * 2 ^ 1024 =
    ap (λ (z : ℕ). d * z) (pow-add 2 1024 n ∙ mul_comm (2 ^ 1024) (2 ^ n)) ∙ sym (mul_assoc d (2 ^ n) (2 ^ 1024)) in
    rem_of_value (of_fields binary64 s (suc (1024 + n)) t) s (d * 2 ^ (1024 + n)) (value_of_fields s (1024 + n) t h)
    ∙ ap (λ (z : ℕ). round binary64 s (z % tau_units) units) powers
    ∙ ap (λ (z : ℕ). round binary64 s z units) (mod_scale (d * 2 ^ n) tau_digits (2 ^ 1024) (lit< tt) (pow_pos 1024))
    ∙ round_same binary64 s (left_by_tau d n * 2 ^ 1024) units (left_by_tau d n) (2 ^ 50) (pow_pos 1074) (pow_pos 50)
    (mul_assoc (left_by_tau d n) (2 ^ 1024) (2 ^ 50))

-- ---- of a whole pattern

of_pattern : (b : ℕ) → of_bits binary64 b ≡ of_fields binary64 (negative b) (exponent b) (b % 2 ^ 52)
unfolding of_bits
of_pattern b = refl

pattern_of : (x : Float) → T (fits binary64 x) → {b : ℕ} → b ≡ to_bits binary64 x → x ≡ of_fields binary64 (negative b) (exponent b) (b % 2 ^ 52)
pattern_of x h {b} e = sym (of_bits-to_bits binary64 x h) ∙ ap (of_bits binary64) (sym e) ∙ of_pattern b

module _ (x : Float) (h : T (fits binary64 x)) {b : ℕ} (e : b ≡ to_bits binary64 x) where
  pub rem_below : exponent b < 1025 → x ≡ rem binary64 x tau
  rem_below l =
      let v = below_tau (negative b) (exponent b) (b % 2 ^ 52) l (mod-lt b (pow_pos 52)) in
      let w = subst (λ (y : Float). HasValue y (negative b) v.0 units) (sym (pattern_of x h e)) v.1 in
      sym (ap (rem binary64 x) tau-is
      ∙ rem_of_value x (negative b) v.0 w
      ∙ ap (λ (z : ℕ). round binary64 (negative b) z units) (mod-eq_of_lt v.2)
      ∙ round_of_value x (negative b) v.0 h w)

  pub rem_none : exponent b ≡ 2047 → nan ≡ rem binary64 x tau
  rem_none l =
      no_number (negative b) (b % 2 ^ 52)
      ∙ ap (λ (z : ℕ). rem binary64 (of_fields binary64 (negative b) z (b % 2 ^ 52)) (fin false tau_odd (negsuc 46))) (sym l)
      ∙ ap (λ (y : Float). rem binary64 y (fin false tau_odd (negsuc 46))) (sym (pattern_of x h e))
      ∙ ap (rem binary64 x) (sym tau-is)

  pub rem_above : 1025 ≤ exponent b → exponent b < 2047
      → round binary64 (negative b) (left_by_tau (b % 2 ^ 52 + 2 ^ 52) (exponent b - 1025)) (2 ^ 50) ≡ rem binary64 x tau
  rem_above lo hi =
      let n = exponent b - 1025 in
      let l : exponent b ≡ suc (1024 + n) = omega arith in
      let t = b % 2 ^ 52 in
      sym (ap (rem binary64 x) tau-is
      ∙ ap (λ (y : Float). rem binary64 y (fin false tau_odd (negsuc 46))) (pattern_of x h e)
      ∙ ap (λ (z : ℕ). rem binary64 (of_fields binary64 (negative b) z t) (fin false tau_odd (negsuc 46))) l
      ∙ above_tau (negative b) n t (omega arith)
      ∙ ap (λ (z : ℕ). round binary64 (negative b) (left_by_tau z n) (2 ^ 50)) (omega arith))

-- ---- the product that the code ends with

unlike-false : (t : Bool) → unlike false t ≡ t
unlike-false true = refl
unlike-false false = refl

by_digit_of : (y : Float) (t : Bool) (n : ℕ) → HasValue y false n 1 → mul binary64 y (fin t 1 (negsuc 49)) ≡ round binary64 t n (2 ^ 50)
unfolding mul
by_digit_of nan t n v = absurd v
by_digit_of (inf s) t n v = absurd v
by_digit_of (fin s m e) t n v =
    let over : m * up e * 1 * 2 ^ 50 ≡ n * (down e * 2 ^ 50) = ap (λ (z : ℕ). z * 2 ^ 50) v.1 ∙ mul_assoc n (down e) (2 ^ 50) in
    ap (λ (z : Bool). round binary64 (unlike z t) (m * up e * 1) (down e * 2 ^ 50)) v.0
    ∙ ap (λ (z : Bool). round binary64 z (m * up e * 1) (down e * 2 ^ 50)) (unlike-false t)
    ∙ round_same binary64 t (m * up e * 1) (down e * 2 ^ 50) n (2 ^ 50) (mul-pos (down_pos e) (pow_pos 50)) (pow_pos 50) over

by_digit : (t : Bool) (n : ℕ) → n ≤ 2 ^ 53 → mul binary64 (of_int binary64 (pos n)) (fin t 1 (negsuc 49)) ≡ round binary64 t n (2 ^ 50)
unfolding of_int
by_digit t n h = by_digit_of (round binary64 false n 1) t n (round_whole binary64 false n h)

left-small : (d n : ℕ) → left_by_tau d n ≤ 2 ^ 53
left-small d n =
    let some : 0 < tau_digits = lit< tt in
    le_trans (le_of_lt (mod-lt (d * 2 ^ n) some)) (lit≤ tt)

digit-is : of_bits binary64 0x3cd0_0000_0000_0000 ≡ fin false 1 (negsuc 49)
unfolding of_bits
digit-is = refl

minus_digit-is : neg (of_bits binary64 0x3cd0_0000_0000_0000) ≡ fin true 1 (negsuc 49)
unfolding of_bits neg
minus_digit-is = refl

pub with_digit : (d n : ℕ) {b : ℕ} → b < 2 ^ 63
    → mul binary64 (of_int binary64 (pos (left_by_tau d n))) (of_bits binary64 0x3cd0_0000_0000_0000) ≡ round binary64 (negative b) (left_by_tau d n) (2 ^ 50)
with_digit d n {b} h =
    ap (mul binary64 (of_int binary64 (pos (left_by_tau d n)))) digit-is
    ∙ by_digit false (left_by_tau d n) (left-small d n)
    ∙ ap (λ (s : Bool). round binary64 s (left_by_tau d n) (2 ^ 50)) (sym (is_false (negative b) (lt→nleb (2 ^ 63) b h)))

pub with_minus_digit : (d n : ℕ) {b : ℕ} → 2 ^ 63 ≤ b
    → mul binary64 (of_int binary64 (pos (left_by_tau d n))) (neg (of_bits binary64 0x3cd0_0000_0000_0000))
    ≡ round binary64 (negative b) (left_by_tau d n) (2 ^ 50)
with_minus_digit d n {b} h =
    ap (mul binary64 (of_int binary64 (pos (left_by_tau d n)))) minus_digit-is
    ∙ by_digit true (left_by_tau d n) (left-small d n)
    ∙ ap (λ (s : Bool). round binary64 s (left_by_tau d n) (2 ^ 50)) (sym (is_true (negative b) (le→leb (2 ^ 63) b h)))

pub no_quotient : div binary64 (of_bits binary64 0) (of_bits binary64 0) ≡ nan
unfolding div of_bits
no_quotient = refl
