-- LAWS. `root_units` at M * 2 ^ 52 times an even power of two, for an M of 53 or 54 digits. Assumes nothing.
-- It is R * 2 ^ k, for the whole number R nearest to the root of M * 2 ^ 52.
use Rattle.std.specs.Prelude.{◌≡◌, refl, false, Float}
use Rattle.std.proofs.Common.{sym, ap, ◌∙◌, subst, le_trans, le_of_eq, lt_of_lt_of_le, lt_of_le_of_lt, lt_of_not-le, lt_irrefl, mul-pos, mul_assoc}
use Rattle.std.proofs.Common.{mul_comm, mul_left_comm, mul-le-mul_right, mul-lt-mul_of_pos_right, mul-div_cancel, lt_of_mul-lt-mul_right, arith}
use Rattle.std.proofs.Common.{pow-add, pow_pos, pow_mono}
use Prim.Native.Nat.{ℕ, suc, ◌+◌, ◌-◌, ◌*◌, ◌/◌, ◌^◌, ◌≤◌, ◌<◌, Ordering, compare}
use Rattle.std.proofs.Math.Nat.{eq_of_mul-eq-mul_right}
use Rattle.std.specs.Float.{binary64}
use Rattle.std.specs.Float.Ieee.{size, nearest, units}
use Rattle.std.specs.Float.Ieee.Digits.{size-lt, size-le}
use Rattle.root_near.specs.Nearest.{Nearest}
use Rattle.root.specs.Root.{floor_root, root_units}
use Rattle.root.specs.Floor.{floor-root}
use Rattle.root_near.specs.OneNearest.{Cmp, cmp, nearest_is, nearest_one}

pub pow_lt_back : (i p : ℕ) → 2 ^ i < 2 ^ p → i < p
pow_lt_back i p h = lt_of_not-le (λ (g : p ≤ i). lt_irrefl (2 ^ i) (lt_of_lt_of_le h (pow_mono g)))

pub even_pow : (j k : ℕ) → 2 ^ (j + (k + k)) ≡ 2 ^ j * (2 ^ k * 2 ^ k)
even_pow j k = pow-add 2 j (k + k) ∙ ap (λ (x : ℕ). 2 ^ j * x) (pow-add 2 k k)

half : (z k : ℕ) → 104 + (k + k) < z → z ≤ 106 + (k + k) → suc z / 2 - 53 ≡ k
half z k a b = omega arith

-- how many digits the format drops
dropped : (N k : ℕ) → 2 ^ 104 ≤ N → N < 2 ^ 106 → suc (size (N * (2 ^ k * 2 ^ k))) / 2 - 53 ≡ k
dropped N k lo hi =
    let K = 2 ^ k * 2 ^ k in
    let n = N * K in
    half (size n) k
    (pow_lt_back (104 + (k + k)) (size n)
    (lt_of_le_of_lt (le_trans (le_of_eq (even_pow 104 k)) (mul-le-mul_right K lo)) (size-lt n)))
    (size-le n (106 + (k + k)) (subst (λ (x : ℕ). n < x) (sym (even_pow 106 k)) (mul-lt-mul_of_pos_right hi (mul-pos (pow_pos k) (pow_pos k)))))

-- `root_units` with the number of digits that it drops named
abbrev pub cut : ℕ → ℕ → Float
cut n k =
    let q = floor_root 53 (n / (2 ^ k * 2 ^ k)) in
    let h = suc (2 * q) * 2 ^ k in
    units binary64 false (nearest q (compare (4 * n) (h * h))) k

pub root_units-is : (n : ℕ) → root_units binary64 n ≡ cut n (suc (size n) / 2 - 53)
unfolding root_units
root_units-is n = refl

pub square_of_product : (x p : ℕ) → x * p * (x * p) ≡ x * x * (p * p)
square_of_product x p = simp (mul_assoc, mul_comm, mul_left_comm) refl

-- the comparison, with the power of two divided out
smaller : (o : Ordering) (a b K : ℕ) → 0 < K → Cmp o (a * K) (b * K) → Cmp o a b
smaller Ordering.lt a b K p h = lt_of_mul-lt-mul_right K h
smaller Ordering.eq a b K p h = eq_of_mul-eq-mul_right K p a b h
smaller Ordering.gt a b K p h = lt_of_mul-lt-mul_right K h

pub root-units : (M k R : ℕ) → 2 ^ 52 ≤ M → M < 2 ^ 54 → Nearest M R → root_units binary64 (M * 2 ^ 52 * (2 ^ k * 2 ^ k)) ≡ units binary64 false R k
root-units M k R lo hi near =
    let N = M * 2 ^ 52 in
    let K = 2 ^ k * 2 ^ k in
    let n = N * K in
    let q = floor_root 53 N in
    let h = suc (2 * q) * 2 ^ k in
    let N-lt : N < 2 ^ 106 = omega arith in
    let fl = floor-root 53 N N-lt in
    let c : Cmp (compare (4 * n) (h * h)) (4 * N * K) (suc (2 * q) * suc (2 * q) * K) =
    subst (λ (x : ℕ). Cmp (compare (4 * n) (h * h)) (4 * N * K) x) (square_of_product (suc (2 * q)) (2 ^ k))
    (subst (λ (x : ℕ). Cmp (compare (4 * n) (h * h)) x (h * h)) (sym (mul_assoc 4 N K)) (cmp (4 * n) (h * h))) in
    let is : Nearest M (nearest q (compare (4 * n) (h * h))) =
    let order = compare (4 * n) (h * h) in
    nearest_is M q order (omega arith) fl.0 fl.1 (smaller order (4 * N) (suc (2 * q) * suc (2 * q)) K (mul-pos (pow_pos k) (pow_pos k)) c) in
    root_units-is n
    ∙ ap (λ (j : ℕ). cut n j) (dropped N k (omega arith) N-lt)
    ∙ ap (λ (x : ℕ). units binary64 false (nearest (floor_root 53 x)
    (compare (4 * n) (suc (2 * floor_root 53 x) * 2 ^ k * (suc (2 * floor_root 53 x) * 2 ^ k)))) k) (mul-div_cancel N (mul-pos (pow_pos k) (pow_pos k)))
    ∙ ap (λ (r : ℕ). units binary64 false r k) (nearest_one M (nearest q (compare (4 * n) (h * h))) R is near)
