-- LAWS. There is one whole number nearest to a root, and it has 53 digits. Assumes nothing.
use Rattle.std.specs.Prelude.{◌≡◌, not, T, eqb}
use Rattle.std.proofs.Common.{subst, arith, leb→le, eqb→eq}
use Prim.Native.Nat.{ℕ, zero, suc, ◌+◌, ◌-◌, ◌*◌, ◌^◌, ◌≤◌, ◌<◌, Ordering, compare}
use native.Mathlib.Nat.{suc-mul, mul-suc, mul-le-mul_left, mul-le-mul_right, lt_of_lt_of_le, lt_of_le_of_lt, lt_of_not-le, lt_irrefl, lt_of_mul-lt-mul_right}
use Rattle.std.proofs.Math.Decide.{dec_le}
use Rattle.std.proofs.Math.Dec.{is_le, compare_is_eq, nleb→lt, eqb_refl}
use Rattle.std.proofs.Math.Arith.{lt_of_le-ne}
use Rattle.std.specs.Float.Ieee.{nearest}
use Rattle.root_near.specs.Nearest.{Nearest}

-- what `compare` says
abbrev pub Cmp : Ordering → ℕ → ℕ → Type 0
Cmp Ordering.lt a b = a < b
Cmp Ordering.eq a b = a ≡ b
Cmp Ordering.gt a b = b < a

pub cmp : (a b : ℕ) → Cmp (compare a b) a b
cmp a b = go (compare a b) (leb→le a b) (nleb→lt a b) (eqb→eq a b) (λ (e : a ≡ b). subst (λ (x : ℕ). T (eqb a x)) e (eqb_refl a))
  where
    go : (o : Ordering) → (T (is_le o) → a ≤ b) → (T (not (is_le o)) → b < a) → (T (compare_is_eq o) → a ≡ b) → (a ≡ b → T (compare_is_eq o)) → Cmp o a b
    go Ordering.lt h k e n = lt_of_le-ne (h tt) n
    go Ordering.eq h k e n = e tt
    go Ordering.gt h k e n = k tt

square_of_suc : (q : ℕ) → suc q * suc q ≡ q * q + q + q + 1
square_of_suc q = omega (arith, suc-mul q (suc q), mul-suc q q)

square_of_half : (q : ℕ) → suc (2 * q) * suc (2 * q) ≡ 4 * (q * q) + 4 * q + 1
square_of_half q = omega (arith, square_of_suc (2 * q), twice q)
  where
    quad : (y : ℕ) → 2 * (2 * y) ≡ 4 * y
    quad y = omega arith

    twice : (q : ℕ) → 2 * q * (2 * q) ≡ 4 * (q * q)
    twice q = simp (native.Mathlib.Nat.mul_assoc, native.Mathlib.Nat.mul_comm, native.Mathlib.Nat.mul_left_comm) (quad (q * q))

-- the whole part of a root, moved up where the root is above half way, is the nearest
pub nearest_is : (M q : ℕ) (o : Ordering) → 0 < M → q * q ≤ M * 2 ^ 52 → M * 2 ^ 52 < suc q * suc q → Cmp o (4 * (M * 2 ^ 52)) (suc (2 * q) * suc (2 * q))
    → Nearest M (nearest q o)
nearest_is M zero Ordering.lt p a b c = record { above = omega arith; below = omega arith }
nearest_is M (suc q) Ordering.lt p a b c = record { above = omega (arith, square_of_half (suc q)); below = omega arith }
nearest_is M q Ordering.eq p a b c = absurd (omega (arith, square_of_half q))
nearest_is M q Ordering.gt p a b c = record { above = omega arith; below = omega (arith, square_of_half q, square_of_suc q) }

pub apart : (r s : ℕ) → r < s → r * r + r + s ≤ s * s
apart r s h = omega (arith, mul-le-mul_right s h, suc-mul r s, mul-le-mul_left r h, mul-suc r r)

less : (M r s : ℕ) → r < s → Nearest M r → Nearest M s → ⊥
less M r s h a b = omega (arith, apart r s h)

-- there is only one
pub nearest_one : (M r s : ℕ) → Nearest M r → Nearest M s → r ≡ s
nearest_one M r s a b = go (dec_le r s) (dec_le s r)
  where
    go : Dec (r ≤ s) → Dec (s ≤ r) → r ≡ s
    go (yes h) (yes k) = omega arith
    go (no h) k = absurd (less M s r (omega arith) b a)
    go (yes h) (no k) = absurd (less M r s (omega arith) a b)

-- ---- the nearest whole number has 53 digits

pub root_lo : (M R : ℕ) → 2 ^ 52 ≤ M → Nearest M R → 2 ^ 52 ≤ R
root_lo M R lo n = le_of_not (λ (h : R ≤ 2 ^ 52 - 1). no h (mul-le-mul_right R h))
  where
    no : R ≤ 2 ^ 52 - 1 → R * R ≤ (2 ^ 52 - 1) * R → ⊥
    no h k = omega (arith, n.above)

    le_of_not : (R ≤ 2 ^ 52 - 1 → ⊥) → 2 ^ 52 ≤ R
    le_of_not f = omega (arith, lt_of_not-le f)

pub root_hi : (M R : ℕ) → M + 2 ≤ 2 ^ 54 → Nearest M R → R < 2 ^ 53
root_hi M R hi n = lt_of_not-le (λ (h : 2 ^ 53 ≤ R). no (big n.below (mul-le-mul_right R h)) h)
  where
    big : R * R < M * 2 ^ 52 + R → 2 ^ 53 * R ≤ R * R → R * (2 ^ 53 - 1) < M * 2 ^ 52
    big b k = omega arith

    top : M * 2 ^ 52 ≤ 2 ^ 53 * (2 ^ 53 - 1)
    top = omega arith

    no : R * (2 ^ 53 - 1) < M * 2 ^ 52 → 2 ^ 53 ≤ R → ⊥
    no b h = lt_irrefl (2 ^ 53) (lt_of_le_of_lt h (lt_of_mul-lt-mul_right (2 ^ 53 - 1) (lt_of_lt_of_le b top)))
