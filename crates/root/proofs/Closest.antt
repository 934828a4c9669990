-- LAWS. What `sqrt` means, without its definition's steps: of all the values of the format, none is nearer to the root. Assumes nothing.
-- For two values r and y the root is no nearer to y where it is on r's side of the mean of the two, and that is said by squares:
-- 4 * x against (r + y) * (r + y). All are in units of the smallest value, so x is n = a * 2 ^ 1074.
use Rattle.std.specs.Prelude.{◌≡◌, refl, ◌⊎◌, false, ◌&&◌, pos, negsuc, Float}
use Rattle.std.proofs.Common.{sym, ap, ◌∙◌, subst, inl, inr, ⊎_elim, arith}
use Prim.Native.Nat.{ℕ, zero, suc, ◌+◌, ◌-◌, ◌*◌, ◌/◌, ◌%◌, ◌^◌, ◌≤◌, ◌<◌, Ordering, compare}
use native.Mathlib.Nat.{le_trans, le_of_eq, le_of_lt, lt_of_lt_of_le, lt_of_le_of_lt, lt_of_not-le, lt_irrefl, zero-mul, mul-one, mul_assoc}
use native.Mathlib.Nat.{mul_right_comm, mul-pos, mul-le-mul, mul-le-mul_right, mul-lt-mul_of_pos_right, lt_of_mul-lt-mul_right}
use native.Mathlib.Nat.{eq_of_mul-eq-mul_right, div-lt_iff_lt-mul, le-div_iff_mul-le, suc-mul, add-mul}
use Rattle.std.proofs.Math.Decide.{dec_le}
use lib.Dec.{T, leb, ltb, eqb, ltb→lt, leb→le}
use lib.Pow.{pow-add, pow_pos, pow_mono}
use Rattle.std.specs.Float.{nan, inf, fin, binary64}
use Rattle.std.specs.Float.Ieee.{up, down, size, nearest, fits}
use Rattle.std.specs.Float.Ieee.Digits.{size-lt, size-le, size_reaches}
use Rattle.std.specs.Float.Ieee.Fits.{down_pos, nearest-le, and_l, and_r}
use Rattle.std.specs.Float.Ieee.Exact.{HasValue, units_val}
use Rattle.root.specs.Root.{floor_root, sqrt}
use Rattle.root.specs.Floor.{floor-root}
use Rattle.root_near.specs.OneNearest.{Cmp, cmp}
use Rattle.root.proofs.Rounded.{root_units-is, even_pow, pow_lt_back, square_of_product}
use Rattle.root.proofs.Values.{sqrt_of_value}
use Rattle.root.proofs.Holds.{digits_lt, half, few}

-- r is no farther from √n than y is
pub record Closer (n r y : ℕ) : Type 0 where
  pub above : r < y → 4 * n ≤ (r + y) * (r + y)
  pub below : y < r → (r + y) * (r + y) ≤ 4 * n

square_mono : (a b : ℕ) → a ≤ b → a * a ≤ b * b
square_mono a b h = mul-le-mul h h

-- ---- no value of the format lies between q * 2 ^ k and (q + 1) * 2 ^ k

gap : (q k m j : ℕ) → (k ≡ 0) ⊎ (2 ^ 52 ≤ q) → m < 2 ^ 53 → (m * 2 ^ j ≤ q * 2 ^ k) ⊎ (suc q * 2 ^ k ≤ m * 2 ^ j)
gap q k m j o l = go (dec_le k j)
  where
    go : Dec (k ≤ j) → (m * 2 ^ j ≤ q * 2 ^ k) ⊎ (suc q * 2 ^ k ≤ m * 2 ^ j)
    go (yes h) =
        let t = m * 2 ^ (j - k) in
        let e : t * 2 ^ k ≡ m * 2 ^ j = mul_assoc m (2 ^ (j - k)) (2 ^ k)
        ∙ ap (λ (x : ℕ). m * x) (sym (pow-add 2 (j - k) k) ∙ ap (λ (x : ℕ). 2 ^ x) (omega arith)) in
        either t e (dec_le t q)
      where
        either : (t : ℕ) → t * 2 ^ k ≡ m * 2 ^ j → Dec (t ≤ q) → (m * 2 ^ j ≤ q * 2 ^ k) ⊎ (suc q * 2 ^ k ≤ m * 2 ^ j)
        either t e (yes g) = inl (le_trans (le_of_eq (sym e)) (mul-le-mul_right (2 ^ k) g))
        either t e (no g) = inr (le_trans (mul-le-mul_right (2 ^ k) (lt_of_not-le g)) (le_of_eq e))
    go (no h) = inl (small o (omega arith))
      where
        small : (k ≡ 0) ⊎ (2 ^ 52 ≤ q) → j < k → m * 2 ^ j ≤ q * 2 ^ k
        small (inl z) g = absurd (omega arith)
        small (inr b) g =
            le_trans (mul-le-mul_right (2 ^ j) (le_of_lt l))
            (le_trans (le_of_eq (sym (pow-add 2 53 j)))
            (le_trans (pow_mono {i = 53 + j} {j = 52 + k} (omega arith)) (le_trans (le_of_eq (pow-add 2 52 k)) (mul-le-mul_right (2 ^ k) b))))

-- ---- the two candidates, and which is nearer

twice : (q p : ℕ) → q * p + suc q * p ≡ suc (2 * q) * p
twice q p = omega (arith, suc-mul q p, add-mul q q p, suc-mul (2 * q) p, double q p)
  where
    double : (q p : ℕ) → 2 * q * p ≡ 2 * (q * p)
    double q p = mul_assoc 2 q p

square_of_double : (x : ℕ) → (x + x) * (x + x) ≡ 4 * (x * x)
square_of_double x = omega (arith, add-mul x x (x + x), native.Mathlib.Nat.mul-add x x x)

module _ (n q k m j : ℕ) (lo : q * 2 ^ k * (q * 2 ^ k) ≤ n) (hi : n < suc q * 2 ^ k * (suc q * 2 ^ k)) (o : (k ≡ 0) ⊎ (2 ^ 52 ≤ q)) (l : m < 2 ^ 53) where
  stays : 4 * n ≤ suc (2 * q) * 2 ^ k * (suc (2 * q) * 2 ^ k) → Closer n (q * 2 ^ k) (m * 2 ^ j)
  stays h =
      let a = q * 2 ^ k in
      let y = m * 2 ^ j in
      record {
        above = λ (g : a < y). ⊎_elim (λ (s : y ≤ a). absurd (omega arith))
            (λ (s : suc q * 2 ^ k ≤ y). le_trans h (square_mono (suc (2 * q) * 2 ^ k) (a + y) (omega (arith, twice q (2 ^ k))))) (gap q k m j o l);
        below = λ (g : y < a). le_trans (square_mono (a + y) (a + a) (omega arith)) (omega (arith, square_of_double a));
      }

  moves : suc (2 * q) * 2 ^ k * (suc (2 * q) * 2 ^ k) ≤ 4 * n → Closer n (suc q * 2 ^ k) (m * 2 ^ j)
  moves h =
      let a = suc q * 2 ^ k in
      let y = m * 2 ^ j in
      record {
        above = λ (g : a < y). le_trans (omega (arith, square_of_double a)) (square_mono (a + a) (a + y) (omega arith));
        below = λ (g : y < a). ⊎_elim (λ (s : y ≤ q * 2 ^ k). le_trans (square_mono (a + y) (suc (2 * q) * 2 ^ k) (omega (arith, twice q (2 ^ k)))) h)
            (λ (s : a ≤ y). absurd (omega arith)) (gap q k m j o l);
      }

  either : (c : Ordering) → Cmp c (4 * n) (suc (2 * q) * 2 ^ k * (suc (2 * q) * 2 ^ k)) → Closer n (nearest q c * 2 ^ k) (m * 2 ^ j)
  either Ordering.lt h = stays (le_of_lt h)
  either Ordering.gt h = moves (le_of_lt h)
  either Ordering.eq h = tie (q % 2) (omega arith)
    where
      tie : (r : ℕ) → r < 2 → Closer n ((q + r) * 2 ^ k) (m * 2 ^ j)
      tie zero g = subst (λ (x : ℕ). Closer n (x * 2 ^ k) (m * 2 ^ j)) (omega arith) (stays (le_of_eq h))
      tie (suc zero) g = subst (λ (x : ℕ). Closer n (x * 2 ^ k) (m * 2 ^ j)) (omega arith) (moves (le_of_eq (sym h)))
      tie (suc (suc r)) g = absurd (omega arith)

-- ---- the root's own digits

leading : (n k q : ℕ) → suc (size n) / 2 - 53 ≡ k → n < suc q * suc q * (2 ^ k * 2 ^ k) → (k ≡ 0) ⊎ (2 ^ 52 ≤ q)
leading n zero q e h = inl refl
leading n (suc i) q e h = inr (le_of_not (λ (g : suc q ≤ 2 ^ 52). lt_irrefl n
    (lt_of_lt_of_le h (le_trans (mul-le-mul_right (2 ^ suc i * 2 ^ suc i) (square_mono (suc q) (2 ^ 52) g)) reached))))
  where
    le_of_not : (suc q ≤ 2 ^ 52 → ⊥) → 2 ^ 52 ≤ q
    le_of_not f = omega (arith, lt_of_not-le f)

    reached : 2 ^ 104 * (2 ^ suc i * 2 ^ suc i) ≤ n
    reached = le_trans (le_of_eq (sym (even_pow 104 (suc i)))) (size_reaches n (104 + (suc i + suc i)) (omega arith))

-- ---- what the format holds, in units

size_bound : (x : Float) (a : ℕ) → T (fits binary64 x) → 0 < a → HasValue x false a (2 ^ 1074) → a < 2 ^ 2098
unfolding fits
size_bound nan a h p v = absurd v
size_bound (inf s) a h p v = absurd v
size_bound (fin t zero e) a h p v = absurd (lt_irrefl 0
    (subst (λ (y : ℕ). 0 < y) (sym v.1 ∙ ap (λ (y : ℕ). y * 2 ^ 1074) (zero-mul (up e)) ∙ zero-mul (2 ^ 1074)) (mul-pos p (down_pos e))))
size_bound (fin t (suc m) e) a h p v =
    lt_of_mul-lt-mul_right (down e)
    (lt_of_le_of_lt (le_of_eq (sym v.1))
    (lt_of_lt_of_le
    (mul-lt-mul_of_pos_right (ltb→lt (suc m * up e) (2 ^ 1024 * down e)
    (and_r (eqb (suc m % 2) 1 && ltb (suc m) (2 ^ 53) && leb (down e) (2 ^ 1074)) (ltb (suc m * up e) (2 ^ 1024 * down e)) h)) (pow_pos 1074))
    (le_of_eq (mul_right_comm (2 ^ 1024) (down e) (2 ^ 1074)))))

Places : ℕ → Type 0
Places b = (m : ℕ) × (j : ℕ) × (m < 2 ^ 53) × (b ≡ m * 2 ^ j)

place : (y : Float) (b : ℕ) → T (fits binary64 y) → HasValue y false b (2 ^ 1074) → Places b
unfolding fits Places
place nan b h v = absurd v
place (inf s) b h v = absurd v
place (fin t zero e) b h v = (
  0,
  0,
  omega arith,
  eq_of_mul-eq-mul_right (down e) (down_pos e) b 0
      (sym v.1 ∙ ap (λ (y : ℕ). y * 2 ^ 1074) (zero-mul (up e)) ∙ zero-mul (2 ^ 1074) ∙ sym (zero-mul (down e))),
)
place (fin t (suc m) (pos i)) b h v =
    let A = eqb (suc m % 2) 1 in
    let B = ltb (suc m) (2 ^ 53) in
    let C = leb 1 (2 ^ 1074) in
    let D = ltb (suc m * 2 ^ i) (2 ^ 1024 * 1) in (
      suc m,
      i + 1074,
      ltb→lt (suc m) (2 ^ 53) (and_r A B (and_l (A && B) C (and_l (A && B && C) D h))),
      sym (mul-one b) ∙ sym v.1 ∙ mul_assoc (suc m) (2 ^ i) (2 ^ 1074) ∙ ap (λ (y : ℕ). suc m * y) (sym (pow-add 2 i 1074)),
    )
place (fin t (suc m) (negsuc i)) b h v =
    let A = eqb (suc m % 2) 1 in
    let B = ltb (suc m) (2 ^ 53) in
    let C = leb (2 ^ suc i) (2 ^ 1074) in
    let D = ltb (suc m * 1) (2 ^ 1024 * 2 ^ suc i) in
    let few : suc i < 1075 = pow_lt_back (suc i) 1075
    (lt_of_le_of_lt (leb→le (2 ^ suc i) (2 ^ 1074) (and_r (A && B) C (and_l (A && B && C) D h))) (lib.Dec.lit< tt)) in
    let back : 1074 - suc i + suc i ≡ 1074 = omega arith in (
      suc m,
      1074 - suc i,
      ltb→lt (suc m) (2 ^ 53) (and_r A B (and_l (A && B) C (and_l (A && B && C) D h))),
      eq_of_mul-eq-mul_right (2 ^ suc i) (pow_pos (suc i)) b (suc m * 2 ^ (1074 - suc i))
          (sym v.1 ∙ ap (λ (y : ℕ). y * 2 ^ 1074) (mul-one (suc m))
          ∙ sym (mul_assoc (suc m) (2 ^ (1074 - suc i)) (2 ^ suc i)
          ∙ ap (λ (y : ℕ). suc m * y) (sym (pow-add 2 (1074 - suc i) (suc i)) ∙ ap (λ (y : ℕ). 2 ^ y) back))),
    )

-- ---- no value of the format is nearer to the root of x than `sqrt` of it

pub sqrt_is_closest : (x : Float) (a : ℕ) → T (fits binary64 x) → 0 < a → HasValue x false a (2 ^ 1074)
    → (r : ℕ) × HasValue (sqrt binary64 x) false r (2 ^ 1074)
    × ((y : Float) (b : ℕ) → T (fits binary64 y) → HasValue y false b (2 ^ 1074) → Closer (a * 2 ^ 1074) r b)
unfolding Places
sqrt_is_closest x a f p v =
    let n = a * 2 ^ 1074 in
    let k = suc (size n) / 2 - 53 in
    let K = 2 ^ k * 2 ^ k in
    let Kp : 0 < K = mul-pos (pow_pos k) (pow_pos k) in
    let q = floor_root 53 (n / K) in
    let h = suc (2 * q) * 2 ^ k in
    let c = compare (4 * n) (h * h) in
    let n-lt : n < 2 ^ 3172 = mul-lt-mul_of_pos_right (size_bound x a f p v) (pow_pos 1074) in
    let k-le : k ≤ 2000 = few (size n) (size-le n 3172 n-lt) in
    let small : n / K < 2 ^ 106 = (div-lt_iff_lt-mul Kp).1
    (subst (λ (y : ℕ). n < y) (even_pow 106 k) (lt_of_lt_of_le (size-lt n) (pow_mono (half (size n) k refl)))) in
    let fl = floor-root 53 (n / K) small in
    let lo : q * 2 ^ k * (q * 2 ^ k) ≤ n = le_trans (le_of_eq (square_of_product q (2 ^ k))) ((le-div_iff_mul-le Kp).0 fl.0) in
    let next : n < suc q * suc q * K = (div-lt_iff_lt-mul Kp).0 fl.1 in
    let hi : n < suc q * 2 ^ k * (suc q * 2 ^ k) = lt_of_lt_of_le next (le_of_eq (sym (square_of_product (suc q) (2 ^ k)))) in
    let r-le : nearest q c ≤ 2 ^ 53 = le_trans (nearest-le q c) (digits_lt q (n / K) fl.0 small) in
    let fine : nearest q c * 2 ^ k < 2 ^ 2098 =
    lt_of_le_of_lt (le_trans (mul-le-mul_right (2 ^ k) r-le) (le_of_eq (sym (pow-add 2 53 k)))) (lib.Pow.pow-lt {i = 53 + k} {j = 2098} (omega arith)) in (
      nearest q c * 2 ^ k,
      subst (λ (y : Float). HasValue y false (nearest q c * 2 ^ k) (2 ^ 1074)) (sym (sqrt_of_value x a p v ∙ root_units-is n))
          (units_val binary64 false (nearest q c) k fine),
      λ y b g w.
          let pl = place y b g w in
          subst (λ (z : ℕ). Closer n (nearest q c * 2 ^ k) z) (sym pl.3)
          (either n q k pl.0 pl.1 lo hi (leading n k q refl next) pl.2 c (cmp (4 * n) (h * h))),
    )
