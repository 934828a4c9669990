-- LAWS. The format holds the root of each value that it holds. Assumes nothing.
use Rattle.std.specs.Prelude.{◌≡◌, refl, true, false, ◌&&◌, T, leb, ltb, eqb, ℤ, Float}
use Rattle.std.proofs.Common.{sym, subst, arith, ltb→lt}
use Prim.Native.Nat.{ℕ, zero, suc, ◌+◌, ◌-◌, ◌*◌, ◌/◌, ◌%◌, ◌^◌, ◌≤◌, ◌<◌, compare}
use native.Mathlib.Nat.{le_trans, le_of_eq, lt_of_lt_of_le, lt_of_le_of_lt, lt_of_not-le, lt_irrefl, mul-pos, mul_right_comm}
use native.Mathlib.Nat.{mul-le-mul_right, mul-le-mul_left, mul-lt-mul_of_pos_right, div-lt_iff_lt-mul}
use lib.Pow.{pow-add, pow_pos, pow_mono}
use Rattle.std.specs.Float.{nan, inf, fin, binary64}
use Rattle.std.specs.Float.Ieee.{up, down, size, nearest, units, odd, fits}
use Rattle.std.specs.Float.Ieee.Digits.{size-lt, size-le}
use Rattle.std.specs.Float.Ieee.Fits.{down_pos, nearest-le, odd-fits, cond-fits, inf-fits, and_r}
use Rattle.root.specs.Root.{floor_root, root_units, sqrt}
use Rattle.root.specs.Floor.{floor-root}
use Rattle.root.proofs.Rounded.{cut, root_units-is, even_pow}

units-fits : (r k : ℕ) → r ≤ 2 ^ 53 → k ≤ 2000 → T (fits binary64 (units binary64 false r k))
unfolding units
units-fits r k h l =
    let fine : r * 2 ^ k < 2 ^ 2098 = lt_of_le_of_lt (le_trans (mul-le-mul_right (2 ^ k) h) (le_of_eq (sym (pow-add 2 53 k))))
    (lt_of_lt_of_le (pow_up (53 + k)) (pow_mono {i = suc (53 + k)} {j = 2098} (omega arith))) in
    cond-fits binary64 (ltb (r * 2 ^ k) (2 ^ 2098)) (odd 54 false r k 1074) (inf false) (odd-fits binary64 54 false r k (omega arith) h fine)
    (inf-fits binary64 false)
  where
    pow_up : (i : ℕ) → 2 ^ i < 2 ^ suc i
    pow_up i = lib.Pow.pow-lt (native.Mathlib.Nat.lt-suc_self i)

pub digits_lt : (q n : ℕ) → q * q ≤ n → n < 2 ^ 106 → q < 2 ^ 53
digits_lt q n a b = lt_of_not-le (λ (h : 2 ^ 53 ≤ q). lt_irrefl (2 ^ 106)
    (lt_of_le_of_lt (le_trans (mul-le-mul_left (2 ^ 53) h) (mul-le-mul_right q h)) (lt_of_le_of_lt a b)))

cut_fits : (n k : ℕ) → n < 2 ^ (106 + (k + k)) → k ≤ 2000 → T (fits binary64 (cut n k))
cut_fits n k h l =
    let K = 2 ^ k * 2 ^ k in
    let small : n / K < 2 ^ 106 = (div-lt_iff_lt-mul (mul-pos (pow_pos k) (pow_pos k))).1 (subst (λ (x : ℕ). n < x) (even_pow 106 k) h) in
    let q = floor_root 53 (n / K) in
    let o = compare (4 * n) (suc (2 * q) * 2 ^ k * (suc (2 * q) * 2 ^ k)) in
    units-fits (nearest q o) k (le_trans (nearest-le q o) (digits_lt q (n / K) (floor-root 53 (n / K) small).0 small)) l

pub half : (z k : ℕ) → k ≡ suc z / 2 - 53 → z ≤ 106 + (k + k)
half z k e = omega arith

pub few : (z : ℕ) → z ≤ 3172 → suc z / 2 - 53 ≤ 2000
few z h = omega arith

root-fits : (n : ℕ) → n < 2 ^ 3172 → T (fits binary64 (root_units binary64 n))
root-fits n h =
    subst (λ (x : Float). T (fits binary64 x)) (sym (root_units-is n))
    (cut_fits n (suc (size n) / 2 - 53) (lt_of_lt_of_le (size-lt n) (pow_mono (half (size n) (suc (size n) / 2 - 53) refl))) (few (size n) (size-le n 3172 h)))

-- how large a number is in units, times 2 ^ 1074
bounded : (w : ℕ) (e : ℤ) → w < 2 ^ 1024 * down e → w * 2 ^ 1074 / down e * 2 ^ 1074 < 2 ^ 3172
bounded w e h =
    mul-lt-mul_of_pos_right
    ((div-lt_iff_lt-mul (down_pos e)).1 (lt_of_lt_of_le (mul-lt-mul_of_pos_right h (pow_pos 1074)) (le_of_eq (mul_right_comm (2 ^ 1024) (down e) (2 ^ 1074)))))
    (pow_pos 1074)

pub sqrt-fits : (x : Float) → T (fits binary64 x) → T (fits binary64 (sqrt binary64 x))
unfolding sqrt fits
sqrt-fits nan h = tt
sqrt-fits (inf true) h = tt
sqrt-fits (inf false) h = tt
sqrt-fits (fin s zero e) h = h
sqrt-fits (fin s (suc m) e) h =
    cond-fits binary64 s nan (root_units binary64 (suc m * up e * 2 ^ 1074 / down e * 2 ^ 1074)) tt
    (root-fits (suc m * up e * 2 ^ 1074 / down e * 2 ^ 1074)
    (bounded (suc m * up e) e
    (ltb→lt (suc m * up e) (2 ^ 1024 * down e) (and_r (eqb (suc m % 2) 1 && ltb (suc m) (2 ^ 53) && leb (down e) (2 ^ 1074))
    (ltb (suc m * up e) (2 ^ 1024 * down e)) h))))
