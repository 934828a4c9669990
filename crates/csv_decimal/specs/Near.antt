-- LAWS. The nearest whole number to a fraction, a tie going to the even one: from a quotient and its rest, and cut short. Assumes nothing.
use Rattle.std.specs.Prelude.{◌≡◌, refl, not}
use Rattle.std.proofs.Common.{sym, ap, ◌∙◌, subst, arith, pow-add, pow_pos}
use Prim.Native.Nat.{ℕ, zero, suc, ◌+◌, ◌-◌, ◌*◌, ◌/◌, ◌%◌, ◌^◌, ◌≤◌, ◌<◌, Ordering, compare}
use native.Mathlib.Nat.{mul_assoc, mul_comm, mul_right_comm, add-mul, one-mul, div-mul-le_self, mod-lt, div-add-mod', mul-le-mul_right, lt_of_le_of_lt}
use native.Mathlib.Nat.{le_trans, le_of_eq}
use Rattle.std.proofs.Math.Decide.{dec_le, ℕ_discrete}
use lib.Dec.{T, is_le, compare_is_eq, eqb, leb→le, nleb→lt, eqb→eq, eqb_refl}
use Rattle.std.proofs.Math.Arith.{lt_of_le-ne, digits_div, digits_mod}
use Rattle.std.specs.Float.Ieee.{nearest}
use Rattle.std.specs.Float.Ieee.Nearest.{closest, closest_same}
use Rattle.csv_decimal.specs.Sticky.{Sticky}

-- ---- what `compare` says
abbrev Cmp : Ordering → ℕ → ℕ → Type 0
Cmp Ordering.lt a b = a < b
Cmp Ordering.eq a b = a ≡ b
Cmp Ordering.gt a b = b < a

cmp : (a b : ℕ) → Cmp (compare a b) a b
cmp a b = go (compare a b) (leb→le a b) (nleb→lt a b) (eqb→eq a b) (λ (e : a ≡ b). subst (λ (x : ℕ). T (eqb a x)) e (eqb_refl a))
  where
    go : (o : Ordering) → (T (is_le o) → a ≤ b) → (T (not (is_le o)) → b < a) → (T (compare_is_eq o) → a ≡ b) → (a ≡ b → T (compare_is_eq o)) → Cmp o a b
    go Ordering.lt h k e n = lt_of_le-ne (h tt) n
    go Ordering.eq h k e n = e tt
    go Ordering.gt h k e n = k tt

-- two pairs of numbers that stand in the same order
pub alike : (a b c d : ℕ) → (a < b → c < d) → (a ≡ b → c ≡ d) → (b < a → d < c) → compare a b ≡ compare c d
alike a b c d l e g = go (compare a b) (compare c d) (cmp a b) (cmp c d)
  where
    go : (o p : Ordering) → Cmp o a b → Cmp p c d → o ≡ p
    go Ordering.lt Ordering.lt x y = refl
    go Ordering.lt Ordering.eq x y = absurd (omega (arith, l x))
    go Ordering.lt Ordering.gt x y = absurd (omega (arith, l x))
    go Ordering.eq Ordering.lt x y = absurd (omega (arith, e x))
    go Ordering.eq Ordering.eq x y = refl
    go Ordering.eq Ordering.gt x y = absurd (omega (arith, e x))
    go Ordering.gt Ordering.lt x y = absurd (omega (arith, g x))
    go Ordering.gt Ordering.eq x y = absurd (omega (arith, g x))
    go Ordering.gt Ordering.gt x y = refl

pub is_lt : (a b : ℕ) → a < b → compare a b ≡ Ordering.lt
is_lt a b h = alike a b 0 1 (λ _. omega arith) (λ e. absurd (omega arith)) (λ g. absurd (omega arith))

pub is_eq : (a b : ℕ) → a ≡ b → compare a b ≡ Ordering.eq
is_eq a b h = alike a b 0 0 (λ l. absurd (omega arith)) (λ _. refl) (λ g. absurd (omega arith))

pub is_gt : (a b : ℕ) → b < a → compare a b ≡ Ordering.gt
is_gt a b h = alike a b 1 0 (λ l. absurd (omega arith)) (λ e. absurd (omega arith)) (λ _. omega arith)

-- ---- from a quotient and its rest
pub closest_by : (a b q t : ℕ) → a ≡ q * b + t → t < b → closest a b ≡ nearest q (compare (t * 2) b)
closest_by a b q t e h =
    ap (λ (z : ℕ). closest z b) e
    ∙ ap (λ (z : ℕ). nearest z (compare ((q * b + t) % b * 2) b)) (digits_div q h)
    ∙ ap (λ (z : ℕ). nearest q (compare (z * 2) b)) (digits_mod q h)

-- a whole number M with |a - M * b| below half of b
pub closest_above : (a b M : ℕ) → M * b ≤ a → (a - M * b) * 2 < b → closest a b ≡ M
closest_above a b M l h =
    closest_by a b M (a - M * b) (omega arith) (omega arith)
    ∙ ap (nearest M) (is_lt ((a - M * b) * 2) b h)

pub closest_below : (a b M : ℕ) → a < M * b → (M * b - a) * 2 < b → closest a b ≡ M
closest_below a b zero l h = absurd (omega (arith, native.Mathlib.Nat.zero-mul b))
closest_below a b (suc M) l h =
    let s : suc M * b ≡ M * b + b = native.Mathlib.Nat.suc-mul M b in
    closest_by a b M (a - M * b) (omega arith) (omega arith)
    ∙ ap (nearest M) (is_gt ((a - M * b) * 2) b (omega arith))

-- ---- at a power of two
two-more : (j : ℕ) → 2 ^ (j + 1) ≡ 2 ^ j * 2
two-more j = pow-add 2 j 1

module _ (d j : ℕ) where
  halved : (q r : ℕ) → d / 2 ^ j ≡ 2 * q + r → r < 2 → closest d (2 ^ (j + 1)) ≡ nearest q (compare ((r * 2 ^ j + d % 2 ^ j) * 2) (2 ^ j * 2))
  halved q r e l =
      let p = 2 ^ j in
      let m : d % p < p = mod-lt d (pow_pos j) in
      let s : (2 * q + r) * p ≡ q * (p * 2) + r * p =
      add-mul (2 * q) r p ∙ ap (λ (z : ℕ). z + r * p) (mul_assoc 2 q p ∙ mul_comm 2 (q * p) ∙ mul_assoc q p 2) in
      let w : d ≡ q * (p * 2) + (r * p + d % p) = sym (div-add-mod' d p) ∙ ap (λ (z : ℕ). z * p + d % p) e ∙ ap (λ (z : ℕ). z + d % p) s ∙ omega arith in
      let u : r * p ≤ p = le_trans (mul-le-mul_right p (omega arith)) (le_of_eq (one-mul p)) in
      ap (closest d) (two-more j) ∙ closest_by d (p * 2) q (r * p + d % p) w (omega arith)

  pub even-low : d / 2 ^ j % 2 ≡ 0 → d / 2 ^ j / 2 ≡ closest d (2 ^ (j + 1))
  even-low h =
      let p = 2 ^ j in
      let q = d / p / 2 in
      let m : d % p < p = mod-lt d (pow_pos j) in
      sym (halved q 0 (omega arith) (omega arith) ∙ ap (nearest q) (is_lt ((0 * p + d % p) * 2) (p * 2) (omega (arith, native.Mathlib.Nat.zero-mul p))))

  rest_of : d / 2 ^ j * 2 ^ j + d % 2 ^ j ≡ d
  rest_of = div-add-mod' d (2 ^ j)

  pub tied : (d / 2 ^ j % 2 ≡ 0 → ⊥) → d / 2 ^ j * 2 ^ j ≡ d → d / 2 ^ j / 2 + d / 2 ^ j / 2 % 2 ≡ closest d (2 ^ (j + 1))
  tied h k =
      let p = 2 ^ j in
      let q = d / p / 2 in
      let z : d % p ≡ 0 = omega (arith, rest_of) in
      sym (halved q 1 (omega arith) (omega arith) ∙ ap (nearest q) (is_eq ((1 * p + d % p) * 2) (p * 2) (omega (arith, one-mul p))))

  pub over : (d / 2 ^ j % 2 ≡ 0 → ⊥) → (d / 2 ^ j * 2 ^ j ≡ d → ⊥) → d / 2 ^ j / 2 + 1 ≡ closest d (2 ^ (j + 1))
  over h k =
      let p = 2 ^ j in
      let q = d / p / 2 in
      let z : 0 < d % p = omega (arith, rest_of) in
      let e : q + 1 ≡ suc q = omega arith in
      e ∙ sym (halved q 1 (omega arith) (omega arith) ∙ ap (nearest q) (is_gt ((1 * p + d % p) * 2) (p * 2) (omega (arith, one-mul p))))

-- ---- a number cut short
module _ (a d D : ℕ) (s : Sticky a d) where
  -- a / (1024 * 2 * D) and d / (2 * 2 * D) have the same whole part, and their rests stand alike to the half
  pub cut_short : 0 < D → closest a (D * 2048) ≡ closest d (D * 4)
  cut_short p =
      let c = a / 1024 in
      let E = D * 2 in
      let q = c / E in
      let t = c % E in
      let m : t < E = mod-lt c (omega arith) in
      let w : q * E + t ≡ c = div-add-mod' c E in
      let x : q * (D * 2048) ≡ q * E * 1024 = ap (λ (z : ℕ). q * z) (omega arith) ∙ sym (mul_assoc q E 1024) in
      let y : q * (D * 4) ≡ q * E * 2 = ap (λ (z : ℕ). q * z) (omega arith) ∙ sym (mul_assoc q E 2) in
      let u : a ≡ q * (D * 2048) + (t * 1024 + a % 1024) = omega arith in
      let v : d ≡ q * (D * 4) + (t * 2 + d % 2) = omega (arith, s.half) in
      closest_by a (D * 2048) q (t * 1024 + a % 1024) u (omega arith)
      ∙ ap (nearest q)
      (alike ((t * 1024 + a % 1024) * 2) (D * 2048) ((t * 2 + d % 2) * 2) (D * 4) (λ l. omega arith) (λ e. level t e) (λ g. more t g (ℕ_discrete (a % 1024) 0)))
      ∙ sym (closest_by d (D * 4) q (t * 2 + d % 2) v (omega arith))
    where
      level : (t : ℕ) → (t * 1024 + a % 1024) * 2 ≡ D * 2048 → (t * 2 + d % 2) * 2 ≡ D * 4
      level t e = let z : a % 1024 ≡ 0 = whole t e (dec_le D t) in omega (arith, s.exact z)
        where
          whole : (t : ℕ) → (t * 1024 + a % 1024) * 2 ≡ D * 2048 → Dec (D ≤ t) → a % 1024 ≡ 0
          whole t e (yes l) = omega arith
          whole t e (no l) = omega arith

      more : (t : ℕ) → D * 2048 < (t * 1024 + a % 1024) * 2 → Dec (a % 1024 ≡ 0) → D * 4 < (t * 2 + d % 2) * 2
      more t g (yes z) = omega arith
      more t g (no z) = omega (arith, s.rest z)

-- what the code of `sticky` finds is it
abbrev cut : ℕ → ℕ
cut m = m * 125 / 1024 * 125 + m * 125 % 1024 * 125 / 1024

module _ (m : ℕ) (small : m < 2 ^ 53) where
  whole_part : (m * 15625 / 1024 ≡ cut m) × (m * 15625 % 1024 ≡ m * 125 % 1024 * 125 % 1024)
  whole_part =
      let r = m * 125 % 1024 * 125 % 1024 in
      let e : m * 15625 ≡ cut m * 1024 + r = omega arith in
      let l : r < 1024 = omega arith in
      (ap (λ (z : ℕ). z / 1024) e ∙ digits_div (cut m) l, ap (λ (z : ℕ). z % 1024) e ∙ digits_mod (cut m) l)

  pub sticky_even : m * 125 % 1024 * 125 % 1024 ≡ 0 → Sticky (m * 15625) (2 * cut m)
  sticky_even h =
      let w = whole_part in
      record { half = omega arith; exact = λ _. omega arith; rest = λ n. absurd (n (omega arith)); low = omega arith }

  pub sticky_odd : (m * 125 % 1024 * 125 % 1024 ≡ 0 → ⊥) → Sticky (m * 15625) (2 * cut m + 1)
  sticky_odd h =
      let w = whole_part in
      record { half = omega arith; exact = λ n. absurd (h (sym w.1 ∙ n)); rest = λ _. omega arith; low = omega arith }

-- ---- a shift back and forth
pub shifted : (d j : ℕ) → d < 2 ^ 64 → d / 2 ^ j * 2 ^ j % 2 ^ 64 ≡ d / 2 ^ j * 2 ^ j
shifted d j h = native.Mathlib.Nat.mod-eq_of_lt (lt_of_le_of_lt (div-mul-le_self d (2 ^ j)) h)

-- ---- the size in millionths of m / 2 ^ s
pub in_parts : (m d s : ℕ) → 23 ≤ s → Sticky (m * 15625) d → closest d (2 ^ (s - 16 + 1)) ≡ closest (m * 1000000) (2 ^ s)
in_parts m d s l k =
    let D = 2 ^ (s - 17) in
    let x : 2 ^ (s - 16 + 1) ≡ D * 4 = ap (λ (z : ℕ). 2 ^ z) (same (s - 16 + 1) (s - 17 + 2) (omega arith)) ∙ pow-add 2 (s - 17) 2 in
    let y : 2 ^ (s - 6) ≡ D * 2048 = ap (λ (z : ℕ). 2 ^ z) (same (s - 6) (s - 17 + 11) (omega arith)) ∙ pow-add 2 (s - 17) 11 in
    let w : 2 ^ s ≡ 2 ^ (s - 6) * 64 = ap (λ (z : ℕ). 2 ^ z) (same s (s - 6 + 6) (omega arith)) ∙ pow-add 2 (s - 6) 6 in
    ap (closest d) x
    ∙ sym (cut_short (m * 15625) d D k (pow_pos (s - 17)))
    ∙ ap (closest (m * 15625)) (sym y)
    ∙ closest_same (m * 15625) (2 ^ (s - 6)) (m * 1000000) (2 ^ s) (pow_pos (s - 6)) (pow_pos s) (ap (λ (z : ℕ). m * 15625 * z) w ∙ spread m (2 ^ (s - 6)))
  where
    same : (a b : ℕ) → a ≡ b → a ≡ b
    same a b e = e

    spread : (m p : ℕ) → m * 15625 * (p * 64) ≡ m * 1000000 * p
    spread m p =
        sym (mul_assoc (m * 15625) p 64) ∙ mul_right_comm (m * 15625) p 64 ∙ ap (λ (z : ℕ). z * p) (mul_assoc m 15625 64)

-- ---- how near the nearest is
pub how-near : (a b : ℕ) → 0 < b → (closest a b * b * 2 ≤ a * 2 + b) × (a * 2 ≤ closest a b * b * 2 + b)
how-near a b p = go (compare (a % b * 2) b) (cmp (a % b * 2) b) (mod-lt a p) (div-add-mod' a b) (native.Mathlib.Nat.suc-mul (a / b) b)
  where
    go : (o : Ordering) → Cmp o (a % b * 2) b → a % b < b → a / b * b + a % b ≡ a → suc (a / b) * b ≡ a / b * b + b
        → (nearest (a / b) o * b * 2 ≤ a * 2 + b) × (a * 2 ≤ nearest (a / b) o * b * 2 + b)
    go Ordering.lt c m e s = (omega arith, omega arith)
    go Ordering.gt c m e s = (omega arith, omega arith)
    go Ordering.eq c m e s = tie (a / b % 2) (mod-lt (a / b) (lib.Dec.lit< tt))
      where
        tie : (r : ℕ) → r < 2 → ((a / b + r) * b * 2 ≤ a * 2 + b) × (a * 2 ≤ (a / b + r) * b * 2 + b)
        tie zero l = let z : (a / b + 0) * b ≡ a / b * b = ap (λ (x : ℕ). x * b) (native.Mathlib.Nat.add-zero (a / b)) in (omega arith, omega arith)
        tie (suc zero) l =
            let z : (a / b + 1) * b ≡ a / b * b + b = ap (λ (x : ℕ). x * b) (native.Mathlib.Numerals.add-one (a / b)) ∙ s in (omega arith, omega arith)
        tie (suc (suc r)) l = absurd (omega arith)

-- a tie goes to the even one
pub tie-even : (a b : ℕ) → a % b * 2 ≡ b → closest a b % 2 ≡ 0
tie-even a b h = ap (λ (o : Ordering). nearest (a / b) o % 2) (is_eq (a % b * 2) b h) ∙ even (a / b)
  where
    even : (q : ℕ) → (q + q % 2) % 2 ≡ 0
    even q = omega arith
