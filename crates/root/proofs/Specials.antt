-- LAWS. Where there is nothing to compute: the zeros, the infinity above, and what has no root. Assumes nothing.
use mathlib.Core.Path.{◌≡◌, refl, sym, ap, ◌∙◌, subst}
use Prim.Native.Nat.{ℕ, zero, suc, ◌+◌, ◌-◌, ◌*◌, ◌/◌, ◌%◌, ◌^◌, ◌≤◌, ◌<◌}
use native.Mathlib.Nat.{lt_irrefl, zero-mul, mul-pos}
use native.Mathlib.Omega.{arith}
use native.Mathlib.Decide.{dec_lt}
use mathlib.Core.Bool.{Bool, true, false, cond}
use lib.Dec.{leb, eqb, eqb→eq, not_T, le→leb}
use lib.Pow.{pow_pos}
use lib.Ieee.{Float, nan, inf, fin, binary64, up, odd, of_fields, of_bits, to_bits}
use lib.Ieee.Fits.{down_pos}
use lib.Ieee.Bits.{is_true, is_false}
use lib.Ieee.Exact.{HasValue, odd_sign}
use Rattle.root.specs.Root.{sqrt}
use Rattle.root.proofs.Values.{fields}

pub of_zero : 0 ≡ to_bits binary64 (sqrt binary64 (of_bits binary64 0))
unfolding to_bits sqrt of_bits
of_zero = refl

pub of_minus_zero : 0x8000_0000_0000_0000 ≡ to_bits binary64 (sqrt binary64 (of_bits binary64 0x8000_0000_0000_0000))
unfolding to_bits sqrt of_bits
of_minus_zero = refl

pub of_infinity : 0x7ff0_0000_0000_0000 ≡ to_bits binary64 (sqrt binary64 (of_bits binary64 0x7ff0_0000_0000_0000))
unfolding to_bits sqrt of_bits
of_infinity = refl

-- a number below 0
below : (x : Float) (a : ℕ) → 0 < a → HasValue x true a (2 ^ 1074) → sqrt binary64 x ≡ nan
unfolding sqrt
below nan a p v = refl
below (inf s) a p v = absurd v
below (fin t zero e) a p v = absurd (lt_irrefl 0 (subst (λ (y : ℕ). 0 < y)
    (sym v.1 ∙ ap (λ (y : ℕ). y * 2 ^ 1074) (zero-mul (up e)) ∙ zero-mul (2 ^ 1074)) (mul-pos p (down_pos e))))
below (fin t (suc m) e) a p v = rw v.0

-- the fields of a number below 0, of the infinity below, and of a NaN with a sign
below-fields : (x t : ℕ) → 0 < x + t → sqrt binary64 (of_fields binary64 true x t) ≡ nan
unfolding of_fields sqrt
below-fields zero t h = below (odd 53 true t 0 1074) (t * 2 ^ 0) (omega arith) (odd_sign 53 true t 0 1074)
below-fields (suc x) t h = go (eqb (suc x) 2047) (eqb t 0)
  where
    go : (a b : Bool) → sqrt binary64 (cond a (cond b (inf true) nan) (odd 53 true (2 ^ 52 + t) x 1074)) ≡ nan
    go true true = refl
    go true false = refl
    go false b = below (odd 53 true (2 ^ 52 + t) x 1074) ((2 ^ 52 + t) * 2 ^ x) (mul-pos (omega arith) (pow_pos x)) (odd_sign 53 true (2 ^ 52 + t) x 1074)

fields-below : (b : ℕ) → 2 ^ 63 ≤ b → of_bits binary64 b ≡ of_fields binary64 true (b % 2 ^ 63 / 2 ^ 52) (b % 2 ^ 52)
unfolding of_bits
fields-below b h = ap (λ (s : Bool). of_fields binary64 s (b % 2 ^ 63 / 2 ^ 52) (b % 2 ^ 52)) (is_true (leb (2 ^ 63) b) (le→leb (2 ^ 63) b h))

-- a NaN without a sign
nan_fields : (t : ℕ) → 0 < t → of_fields binary64 false 2047 t ≡ nan
unfolding of_fields
nan_fields t h = ap (λ (z : Bool). cond z (inf false) nan) (is_false (eqb t 0) (not_T (eqb t 0) (λ e. lt_irrefl 0 (subst (λ (y : ℕ). 0 < y) (eqb→eq t 0 e) h))))

nan_of : sqrt binary64 nan ≡ nan
unfolding sqrt
nan_of = refl

no-root : (b : ℕ) → b < 2 ^ 64 → 0x7ff0_0000_0000_0000 < b → (b ≡ 0x8000_0000_0000_0000 → ⊥) → sqrt binary64 (of_bits binary64 b) ≡ nan
no-root b w l m = go (dec_lt b (2 ^ 63))
  where
    go : Dec (b < 2 ^ 63) → sqrt binary64 (of_bits binary64 b) ≡ nan
    go (yes h) =
        let x : b / 2 ^ 52 ≡ 2047 = omega arith in
        ap (sqrt binary64) (fields b h ∙ ap (λ (y : ℕ). of_fields binary64 false y (b % 2 ^ 52)) x ∙ nan_fields (b % 2 ^ 52) (omega arith)) ∙ nan_of
    go (no h) =
        ap (sqrt binary64) (fields-below b (omega arith)) ∙ below-fields (b % 2 ^ 63 / 2 ^ 52) (b % 2 ^ 52) (omega arith)

nan-bits : 0x7ff8_0000_0000_0000 ≡ to_bits binary64 nan
unfolding to_bits
nan-bits = refl

pub of_no_root : (b : ℕ) → b < 2 ^ 64 → 0x7ff0_0000_0000_0000 < b → (b ≡ 0x8000_0000_0000_0000 → ⊥)
    → 0x7ff8_0000_0000_0000 ≡ to_bits binary64 (sqrt binary64 (of_bits binary64 b))
of_no_root b w l m = nan-bits ∙ ap (to_bits binary64) (sym (no-root b w l m))
