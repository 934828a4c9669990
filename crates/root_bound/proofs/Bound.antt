-- LAWS. A root against a bound, by the digits of both. Assumes nothing.
use mathlib.Core.Path.{◌≡◌, refl, sym, ap, ◌∙◌, subst}
use mathlib.Core.Logic.{◌⊎◌, inl, inr, ⊎_elim}
use Prim.Native.Nat.{ℕ, suc, ◌+◌, ◌-◌, ◌*◌, ◌/◌, ◌%◌, ◌^◌, ◌≤◌, ◌<◌, compare}
use native.Mathlib.Nat.{add_comm, le_trans, le_of_eq, le_of_lt, lt_of_lt_of_le, lt_of_le_of_lt, lt_of_not-le, lt_irrefl, mul-pos}
use native.Mathlib.Nat.{mul-le-mul, mul-le-mul_right, mul-lt-mul_of_pos_right}
use native.Mathlib.Omega.{arith}
use native.Mathlib.Decide.{dec_le, dec_lt}
use mathlib.Core.Bool.{Bool, true, false, ◌&&◌}
use lib.Dec.{T, leb, ltb, leb→le, le→leb, ltb→lt, lt→ltb}
use lib.Pow.{pow-add, pow_pos, pow_mono}
use lib.Ieee.{Float, binary64, le, of_bits, nearest}
use lib.Ieee.Exact.{HasValue}
use lib.Ieee.Order.{le_of_values}
use lib.Ieee.Positive.{positive_of_value, values_of_le}
use Rattle.root_near.specs.Nearest.{Nearest}
use Rattle.root.specs.Root.{floor_root, sqrt}
use Rattle.root.specs.Digits.{digits, taken}
use Rattle.root_bound.specs.Greatest.{greatest, normal}
use Rattle.root_near.specs.Squares.{square_of_sum}
use Rattle.root.specs.Floor.{floor-root}
use Rattle.root_near.specs.OneNearest.{cmp, nearest_is, apart, root_lo, root_hi}
use Rattle.root.proofs.Values.{normal-value}
use Rattle.root.proofs.Normal.{exponent, bounds, taken_is, root-value}

-- two tests that follow from each other
pub same_test : (p q : Bool) → (T p → T q) → (T q → T p) → p ≡ q
same_test true true f g = refl
same_test true false f g = absurd (f tt)
same_test false true f g = absurd (g tt)
same_test false false f g = refl

-- numbers above 0 compare as their sizes do
le_is : (x y : Float) (a b : ℕ) → HasValue x false a (2 ^ 1074) → HasValue y false b (2 ^ 1074) → 0 < a → 0 < b → le x y ≡ leb a b
le_is x y a b v w p q =
    same_test (le x y) (leb a b)
    (λ t. le→leb a b (le_back (values_of_le x y a (2 ^ 1074) b (2 ^ 1074) (positive_of_value x a (2 ^ 1074) v p) (positive_of_value y b (2 ^ 1074) w q) v w t)))
    (λ t. le_of_values x y a (2 ^ 1074) b (2 ^ 1074) (pow_pos 1074) (pow_pos 1074) v w (mul-le-mul_right (2 ^ 1074) (leb→le a b t)))
  where
    le_back : a * 2 ^ 1074 ≤ b * 2 ^ 1074 → a ≤ b
    le_back h = ⊎_elim (λ (k : a ≤ b). k) (λ (k : b < a). absurd (lt_irrefl (a * 2 ^ 1074) (lt_of_le_of_lt h (mul-lt-mul_of_pos_right k (pow_pos 1074)))))
        (either (dec_le a b))
      where
        either : Dec (a ≤ b) → (a ≤ b) ⊎ (b < a)
        either (yes k) = inl k
        either (no k) = inr (lt_of_not-le k)

-- ---- the whole number nearest to a root

abbrev pub nearest_to : ℕ → ℕ
nearest_to m = let q = floor_root 53 (m * 2 ^ 52) in nearest q (compare (4 * (m * 2 ^ 52)) (suc (2 * q) * suc (2 * q)))

near-to : (m : ℕ) → 0 < m → m < 2 ^ 54 → Nearest m (nearest_to m)
near-to m p h =
    let q = floor_root 53 (m * 2 ^ 52) in
    let small : m * 2 ^ 52 < 4 ^ 53 = omega arith in
    let fl = floor-root 53 (m * 2 ^ 52) small in
    nearest_is m q (compare (4 * (m * 2 ^ 52)) (suc (2 * q) * suc (2 * q))) p fl.0 fl.1 (cmp (4 * (m * 2 ^ 52)) (suc (2 * q) * suc (2 * q)))

-- it is at most t where m is at most t's greatest
within : (m r t : ℕ) → Nearest m r → leb r t ≡ leb m (greatest t)
within m r t n =
    same_test (leb r t) (leb m (greatest t))
    (λ h. le→leb m (greatest t) (up (leb→le r t h)))
    (λ h. le→leb r t (down (leb→le m (greatest t) h)))
  where
    up : r ≤ t → m ≤ greatest t
    up h = omega (arith, n.above, mul-le-mul h h)

    down : m ≤ greatest t → r ≤ t
    down h = go (dec_le r t)
      where
        go : Dec (r ≤ t) → r ≤ t
        go (yes k) = k
        go (no k) = absurd (omega (arith, n.below, apart t r (lt_of_not-le k)))

-- ---- digits of 53 places with powers of two

larger : (R F k j : ℕ) → R < 2 ^ 53 → 2 ^ 52 ≤ F → k < j → R * 2 ^ k ≤ F * 2 ^ j
larger R F k j r f h =
    le_trans (mul-le-mul_right (2 ^ k) (le_of_lt r))
    (le_trans (le_of_eq (sym (pow-add 2 53 k))) (le_trans (pow_mono {i = 53 + k} {j = 52 + j} (omega arith))
    (le_trans (le_of_eq (pow-add 2 52 j)) (mul-le-mul_right (2 ^ j) f))))

smaller : (R F k j : ℕ) → 2 ^ 52 ≤ R → F < 2 ^ 53 → j < k → F * 2 ^ j < R * 2 ^ k
smaller R F k j r f h =
    lt_of_lt_of_le (mul-lt-mul_of_pos_right f (pow_pos j))
    (le_trans (le_of_eq (sym (pow-add 2 53 j))) (le_trans (pow_mono {i = 53 + j} {j = 52 + k} (omega arith))
    (le_trans (le_of_eq (pow-add 2 52 k)) (mul-le-mul_right (2 ^ k) r))))

apart-test : (R F k j : ℕ) → 2 ^ 52 ≤ R → R < 2 ^ 53 → 2 ^ 52 ≤ F → F < 2 ^ 53 → (k ≡ j → ⊥) → ltb k j ≡ leb (R * 2 ^ k) (F * 2 ^ j)
apart-test R F k j rl rh fl fh ne =
    same_test (ltb k j) (leb (R * 2 ^ k) (F * 2 ^ j))
    (λ t. le→leb (R * 2 ^ k) (F * 2 ^ j) (larger R F k j rh fl (ltb→lt k j t)))
    (λ t. lt→ltb k j (go (leb→le (R * 2 ^ k) (F * 2 ^ j) t) (dec_lt k j)))
  where
    go : R * 2 ^ k ≤ F * 2 ^ j → Dec (k < j) → k < j
    go h (yes g) = g
    go h (no g) = absurd (lt_irrefl (R * 2 ^ k) (lt_of_le_of_lt h (smaller R F k j rl fh (omega arith))))

same_power : (R F k : ℕ) → leb (R * 2 ^ k) (F * 2 ^ k) ≡ leb R F
same_power R F k =
    same_test (leb (R * 2 ^ k) (F * 2 ^ k)) (leb R F)
    (λ t. le→leb R F (go (leb→le (R * 2 ^ k) (F * 2 ^ k) t) (dec_le R F)))
    (λ t. le→leb (R * 2 ^ k) (F * 2 ^ k) (mul-le-mul_right (2 ^ k) (leb→le R F t)))
  where
    go : R * 2 ^ k ≤ F * 2 ^ k → Dec (R ≤ F) → R ≤ F
    go h (yes g) = g
    go h (no g) = absurd (lt_irrefl (R * 2 ^ k) (lt_of_le_of_lt h (mul-lt-mul_of_pos_right (lt_of_not-le g) (pow_pos k))))

-- ---- together: x is the number below the root, y the bound, each by its bits

pub record Normals (x y : ℕ) : Type 0 where
  pub x_lo : 2 ^ 52 ≤ x
  pub x_hi : x < 2047 * 2 ^ 52
  pub y_lo : 2 ^ 52 ≤ y
  pub y_hi : y < 2047 * 2 ^ 52

abbrev rooted : ℕ → ℕ
rooted x = nearest_to (taken x)

rooted-is : (x : ℕ) → Nearest (taken x) (rooted x)
rooted-is x =
    let b = bounds x (taken x) (taken_is x) in
    near-to (taken x) (omega (arith, b)) (omega (arith, b))

sizes : (x y : ℕ) → Normals x y → le (sqrt binary64 (of_bits binary64 x)) (of_bits binary64 y)
    ≡ leb (rooted x * 2 ^ ((exponent x + 1021) / 2)) (digits y * 2 ^ (exponent y - 1))
sizes x y h =
    let k = (exponent x + 1021) / 2 in
    let j = exponent y - 1 in
    let lo : 2 ^ 52 ≤ rooted x = root_lo (taken x) (rooted x) (bounds x (taken x) (taken_is x)).0 (rooted-is x) in
    le_is (sqrt binary64 (of_bits binary64 x)) (of_bits binary64 y) (rooted x * 2 ^ k) (digits y * 2 ^ j)
    (root-value x (taken x) (rooted x) h.x_lo h.x_hi (taken_is x) (rooted-is x))
    (subst (λ (z : ℕ). HasValue (of_bits binary64 y) false (z * 2 ^ j) (2 ^ 1074)) (add_comm (2 ^ 52) (y % 2 ^ 52)) (normal-value y h.y_lo h.y_hi))
    (mul-pos (omega arith) (pow_pos k)) (mul-pos (omega arith) (pow_pos j))

pub by-power : (x y : ℕ) → Normals x y → ((exponent x + 1021) / 2 ≡ exponent y - 1 → ⊥)
    → ltb ((exponent x + 1021) / 2) (exponent y - 1) ≡ le (sqrt binary64 (of_bits binary64 x)) (of_bits binary64 y)
by-power x y h ne =
    let b = bounds x (taken x) (taken_is x) in
    apart-test (rooted x) (digits y) ((exponent x + 1021) / 2) (exponent y - 1)
    (root_lo (taken x) (rooted x) b.0 (rooted-is x)) (root_hi (taken x) (rooted x) b.1 (rooted-is x)) (omega arith) (omega arith) ne
    ∙ sym (sizes x y h)

pub by_digits : (x y : ℕ) → Normals x y → (exponent x + 1021) / 2 ≡ exponent y - 1
    → leb (taken x) (greatest (digits y)) ≡ le (sqrt binary64 (of_bits binary64 x)) (of_bits binary64 y)
by_digits x y h e =
    sym (within (taken x) (rooted x) (digits y) (rooted-is x))
    ∙ sym (same_power (rooted x) (digits y) ((exponent x + 1021) / 2))
    ∙ ap (λ (z : ℕ). leb (rooted x * 2 ^ ((exponent x + 1021) / 2)) (digits y * 2 ^ z)) e
    ∙ sym (sizes x y h)

-- t's greatest by the halves of t
pub by-halves : (t : ℕ) → 4 * (t / 2 ^ 27 * (t / 2 ^ 27)) + (2 * (t / 2 ^ 27 * (t % 2 ^ 27)) + (t % 2 ^ 27 * (t % 2 ^ 27) + t) / 2 ^ 27) / 2 ^ 25 ≡ greatest t
by-halves t =
    let a = t / 2 ^ 27 in
    let b = t % 2 ^ 27 in
    let e : t ≡ a * 2 ^ 27 + b = omega arith in
    let square : t * t ≡ a * a * (2 ^ 27 * 2 ^ 27) + a * b * 2 ^ 27 + a * b * 2 ^ 27 + b * b = ap (λ (z : ℕ). z * z) e ∙ square_of_sum (2 ^ 27) a b in
    omega (arith, square)

-- what the test of a pattern tells
pub normal-is : (b : ℕ) → normal b ≡ true → (2 ^ 52 ≤ b) × (b < 2047 * 2 ^ 52)
normal-is b h = go (leb (2 ^ 52) b) (ltb b (2047 * 2 ^ 52)) (leb→le (2 ^ 52) b) (ltb→lt b (2047 * 2 ^ 52)) h
  where
    go : (p q : Bool) → (T p → 2 ^ 52 ≤ b) → (T q → b < 2047 * 2 ^ 52) → p && q ≡ true → (2 ^ 52 ≤ b) × (b < 2047 * 2 ^ 52)
    go true true f g e = (f tt, g tt)
    go true false f g e = absurd (subst T (sym e) tt)
    go false q f g e = absurd (subst T (sym e) tt)
