-- LAWS. The number nearest to n / 10 ^ k, in millionths, is n / 10 ^ k itself, where it is below 10 ^ 9. Assumes nothing.
use Rattle.std.specs.Prelude.{◌≡◌, ℕ, zero, suc, ◌+◌, ◌-◌, ◌*◌, ◌/◌, ◌^◌, ◌≤◌, ◌<◌, min, Bool, cond, eqb, pos, Float}
use Rattle.std.proofs.Math.Path.{refl, ap}
use Rattle.std.proofs.Common.{sym, ◌∙◌, subst, true≢false, lit<, lit≤, pow_pos, pow_mono}
use native.Mathlib.Nat.{le_trans, le_of_lt, lt_of_lt_of_le, lt_of_le_of_lt, lt_irrefl, mul_assoc, mul_comm, mul_left_comm, mul-one, zero-mul, mul-pos}
use native.Mathlib.Nat.{mul-le-mul_right, mul-le-mul_left, mul-lt-mul_of_pos_right, div-lt_iff_lt-mul, one-le-pow, pow-le-pow_right}
use native.Mathlib.Omega.{arith}
use Rattle.std.proofs.Math.Decide.{dec_le}
use Rattle.std.proofs.Math.Bool.{true, false}
use Rattle.std.specs.Float.Ieee.{nan, binary64, up, down, size, div, neg, round, of_int, of_bits, lt}
use Rattle.std.specs.Float.{inf, fin}
use Rattle.std.specs.Float.Ieee.Digits.{size-le}
use Rattle.std.specs.Float.Ieee.Fits.{down_pos}
use Rattle.std.specs.Float.Ieee.Exact.{HasValue}
use Rattle.std.specs.Float.Ieee.Back.{round_whole}
use Rattle.std.specs.Float.Ieee.Nearest.{closest}
use Rattle.std.specs.Float.Ieee.Order.{drop}
use Rattle.std.specs.Float.Ieee.Scale.{round_same, grid, round_val}
use borrow.Author.Tests.{lt-ltb, le-ltb, ne_eqb}
use Rattle.csv_decimal.specs.Decimal.{millionths}
use Rattle.csv_decimal.specs.Near.{closest_above, closest_below, how-near}
use Rattle.csv_decimal.specs.Values.{of_value}

-- ---- one division of two whole numbers is one rounding
div_of : (y z : Float) (n d : ℕ) → 0 < d → HasValue y false n 1 → HasValue z false d 1 → div binary64 y z ≡ round binary64 false n d
unfolding div
div_of nan z n d p v w = absurd v
div_of (inf t) z n d p v w = absurd v
div_of (fin true m e) z n d p v w = absurd (true≢false v.0)
div_of (fin false m e) nan n d p v w = absurd w
div_of (fin false m e) (inf t) n d p v w = absurd w
div_of (fin false m e) (fin true i g) n d p v w = absurd (true≢false w.0)
div_of (fin false m e) (fin false i g) n d p v w =
    let a : m * up e ≡ n * down e = sym (mul-one (m * up e)) ∙ v.1 in
    let b : i * up g ≡ d * down g = sym (mul-one (i * up g)) ∙ w.1 in
    let q : 0 < i * up g = subst (λ (z : ℕ). 0 < z) (sym b) (mul-pos p (down_pos g)) in
    let r : 0 < i * up g * down e = mul-pos q (down_pos e) in
    let s : m * up e * down g * d ≡ n * (i * up g * down e) =
    ap (λ (z : ℕ). z * down g * d) a ∙ around n (down e) (down g) d ∙ ap (λ (z : ℕ). n * (z * down e)) (sym b) in
    ap (λ (t : Bool). cond t (cond (eqb m 0) nan (inf false)) (round binary64 false (m * up e * down g) (i * up g * down e)))
    (ne_eqb i 0 (λ (z : i ≡ 0). lt_irrefl 0 (subst (λ (x : ℕ). 0 < x) (ap (λ (x : ℕ). x * up g) z ∙ zero-mul (up g)) q)))
    ∙ round_same binary64 false (m * up e * down g) (i * up g * down e) n d r p s
  where
    around : (n x y d : ℕ) → n * x * y * d ≡ n * (d * y * x)
    around n x y d = simp (mul_assoc, mul_comm, mul_left_comm)

pub quotient_is : (n k : ℕ) → n ≤ 2 ^ 53 → k ≤ 9 → div binary64 (of_int binary64 (pos n)) (of_int binary64 (pos (10 ^ k))) ≡ round binary64 false n (10 ^ k)
unfolding of_int
quotient_is n k h l =
    div_of (round binary64 false n 1) (round binary64 false (10 ^ k) 1) n (10 ^ k) (one-le-pow k 10 (lit< tt)) (round_whole binary64 false n h)
    (round_whole binary64 false (10 ^ k) (le_trans (pow-le-pow_right (lit< {m = 0} {n = 10} tt) l) (lit≤ {m = 10 ^ 9} {n = 2 ^ 53} tt)))

-- ---- the rounded number is near
module _ (N : ℕ) (small : N < 1000000000000000) where
  -- in units of the smallest value
  units : ℕ
  units = grid binary64 N 1000000

  dropped : ℕ
  dropped = drop 53 (N * 2 ^ 1074) 1000000

  few : dropped ≤ 1051
  unfolding dropped
  few =
      let h : N * 2 ^ 1074 / 1000000 < 2 ^ 1104 =
      (div-lt_iff_lt-mul (lit< {m = 0} {n = 1000000} tt)).1
      (lt_of_lt_of_le (mul-lt-mul_of_pos_right small (pow_pos 1074)) (lit≤ {m = 1000000000000000 * 2 ^ 1074} {n = 2 ^ 1104 * 1000000} tt)) in
      less (size (N * 2 ^ 1074 / 1000000)) (size-le (N * 2 ^ 1074 / 1000000) 1104 h)
    where
      less : (z : ℕ) → z ≤ 1104 → z - 53 ≤ 1051
      less z h = omega arith

  Near : ℕ → ℕ → Type 0
  Near g p = (g * 1000000 * 16 ≤ N * p * 16 + p) × (N * p * 16 ≤ g * 1000000 * 16 + p)

  near : Near units (2 ^ 1074)
  unfolding units dropped Near
  near =
      let a = N * 2 ^ 1074 in
      let K = 2 ^ dropped in
      let b = 1000000 * K in
      let q = closest a b in
      let h = how-near a b (mul-pos (lit< {m = 0} {n = 1000000} tt) (pow_pos dropped)) in
      let e : q * K * 1000000 ≡ q * b = mul_assoc q K 1000000 ∙ ap (λ (z : ℕ). q * z) (mul_comm K 1000000) in
      let l : b * 8 ≤ 2 ^ 1074 = le_trans (mul-le-mul_right 8 (mul-le-mul_left 1000000 (pow_mono few))) (lit≤ {m = 1000000 * 2 ^ 1051 * 8} {n = 2 ^ 1074} tt) in
      both (q * K * 1000000) (q * b) a b (2 ^ 1074) e h.0 h.1 l
    where
      both : (x y a b p : ℕ) → x ≡ y → y * 2 ≤ a * 2 + b → a * 2 ≤ y * 2 + b → b * 8 ≤ p → (x * 16 ≤ a * 16 + p) × (a * 16 ≤ x * 16 + p)
      both x y a b p e h k l = (omega arith, omega arith)

  back : closest (units * 1000000) (2 ^ 1074) ≡ N
  unfolding Near
  back = go (2 ^ 1074) (units * 1000000) (N * 2 ^ 1074) refl (pow_pos 1074) near.0 near.1 (dec_le (N * 2 ^ 1074) (units * 1000000))
    where
      go : (p g a : ℕ) → N * p ≡ a → 0 < p → g * 16 ≤ a * 16 + p → a * 16 ≤ g * 16 + p → Dec (a ≤ g) → closest g p ≡ N
      go p g a e s h k (yes l) = closest_above g p N (omega arith) (omega arith)
      go p g a e s h k (no l) = closest_below g p N (omega arith) (omega arith)

  bounded : units < 2 ^ 2098
  unfolding Near
  bounded =
      lt_of_le_of_lt (most (2 ^ 1074) units (N * 2 ^ 1074) (1000000000000000 * 2 ^ 1074) (le_of_lt (mul-lt-mul_of_pos_right small (pow_pos 1074))) near.0)
      (lit< {m = 1000000000000000 * 2 ^ 1074 + 2 ^ 1074} {n = 2 ^ 2098} tt)
    where
      most : (p g a b : ℕ) → a ≤ b → g * 1000000 * 16 ≤ a * 16 + p → g ≤ b + p
      most p g a b l h = omega arith

  valued : HasValue (round binary64 false N 1000000) false units (2 ^ 1074)
  unfolding units
  valued = round_val binary64 N 1000000 bounded

  pub millionths_of : millionths (round binary64 false N 1000000) ≡ N
  millionths_of =
      of_value (round binary64 false N 1000000) false units (2 ^ 1074) (pow_pos 1074) valued
      ∙ ap (λ (z : ℕ). min z 1000000000000000) back
      ∙ under N small
    where
      under : (z : ℕ) → z < 1000000000000000 → min z 1000000000000000 ≡ z
      under z h = omega arith

  some-units : 0 < N → 0 < units
  unfolding Near
  some-units h = go (2 ^ 1074) units (pow_pos 1074) (mul-le-mul_right (2 ^ 1074) h) near.1
    where
      go : (p g : ℕ) → 0 < p → 1 * p ≤ N * p → N * p * 16 ≤ g * 1000000 * 16 + p → 0 < g
      go p g s l h = omega (arith, native.Mathlib.Nat.one-mul p)

  pub not-under : lt (round binary64 false N 1000000) (of_bits binary64 0) ≡ false
  unfolding lt of_bits
  not-under = go (round binary64 false N 1000000) valued
    where
      go : (y : Float) → HasValue y false units (2 ^ 1074) → lt y (of_bits binary64 0) ≡ false
      go nan v = absurd v
      go (inf t) v = absurd v
      go (fin true m e) v = absurd (true≢false v.0)
      go (fin false m e) v = le-ltb (m * up e * 1) (0 * down e) (omega (arith, zero-mul (down e)))

  pub under : 0 < N → lt (neg (round binary64 false N 1000000)) (of_bits binary64 0) ≡ true
  unfolding lt of_bits neg
  under p = go (round binary64 false N 1000000) valued
    where
      go : (y : Float) → HasValue y false units (2 ^ 1074) → lt (neg y) (of_bits binary64 0) ≡ true
      go nan v = absurd v
      go (inf t) v = absurd v
      go (fin true m e) v = absurd (true≢false v.0)
      go (fin false m e) v =
          lt-ltb 0 (m * up e * 1 + 0 * down e)
          (above (m * up e) (0 * down e) (some (m * up e) (subst (λ (z : ℕ). 0 < z) (sym v.1) (mul-pos (some-units p) (down_pos e)))))
        where
          above : (a b : ℕ) → 0 < a → 0 < a * 1 + b
          above a b h = omega arith

          some : (a : ℕ) → 0 < a * 2 ^ 1074 → 0 < a
          some zero h = absurd (lt_irrefl 0 (subst (λ (z : ℕ). 0 < z) (zero-mul (2 ^ 1074)) h))
          some (suc a) h = native.Mathlib.Nat.zero-lt-suc a

pub sign_free : (x : Float) → millionths (neg x) ≡ millionths x
unfolding neg millionths
sign_free nan = refl
sign_free (inf s) = refl
sign_free (fin s m e) = refl
