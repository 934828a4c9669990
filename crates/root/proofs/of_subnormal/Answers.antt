-- `root::of_subnormal`: the answers to its goals. Assumes nothing.
use Prim.Native.Nat.{ℕ, suc, ◌+◌, ◌-◌, ◌*◌, ◌/◌, ◌%◌, ◌^◌, ◌≤◌, ◌<◌}
use mathlib.Core.Path.{◌≡◌, sym, ap, ◌∙◌}
use mathlib.Core.Logic.{◌⊎◌, inl, inr, ⊎_elim}
use native.Mathlib.Nat.{mul_assoc, mul-le-mul_right, mul-lt-mul_of_pos_right, le_trans, le_of_eq, lt_of_lt_of_le, lt_of_le_of_lt}
use native.Mathlib.Omega.{arith}
use lib.Pow.{pow-add, pow_pos}
use lib.Count.{count_leading_zeros, leading_top}
use lib.Ieee.{binary64, to_bits, of_bits}
use Rattle.root_near.specs.Nearest.{Nearest}
use Rattle.root.specs.Root.{sqrt}
use Rattle.root.proofs.Rounded.{pow_lt_back}
use Rattle.root.proofs.Values.{root_pattern, low_value}
use Rattle.root_near.specs.OneNearest.{root_hi}
use Rattle.root.proofs.of_subnormal.Goals as goal
use Rattle.root.proofs.of_subnormal.Goals.{then-shift-eq0, else-shift-eq0}

-- the shift s that takes b's leading digit to the place of 2 ^ 52
record Led (b z : ℕ) : Type 0 where
  over : 11 < z
  under : z ≤ 63
  lo : 2 ^ 52 ≤ b * 2 ^ (z - 11)
  hi : b * 2 ^ (z - 11) < 2 ^ 53

at : (b z j : ℕ) → z + suc j ≡ 64 → 2 ^ j ≤ b → b < 2 ^ suc j → b < 2 ^ 52 → Led b z
at b z j e lo hi l =
    let j-lt : j < 52 = pow_lt_back j 52 (lt_of_le_of_lt lo l) in
    let s = z - 11 in
    let up : j + s ≡ 52 = omega arith in
    let up' : suc j + s ≡ 53 = omega arith in
    record {
      over = omega arith;
      under = omega arith;
      lo = le_trans (le_of_eq (ap (λ (y : ℕ). 2 ^ y) (sym up) ∙ pow-add 2 j s)) (mul-le-mul_right (2 ^ s) lo);
      hi = lt_of_lt_of_le (mul-lt-mul_of_pos_right hi (pow_pos s)) (le_of_eq (sym (pow-add 2 (suc j) s) ∙ ap (λ (y : ℕ). 2 ^ y) up'));
    }

led : (b : ℕ) → 0 < b → b < 2 ^ 52 → Led b (count_leading_zeros 64 b)
led b p l = let t = leading_top 64 b p (omega arith) in at b (count_leading_zeros 64 b) t.0 t.1 t.2 t.3 l

abbrev shift : ℕ → ℕ
shift b = count_leading_zeros 64 b - 11

-- b's digits with the leading one in its place, as the program has them
abbrev digits : ℕ → ℕ
digits b = b * 2 ^ shift b % 2 ^ 64

digits_are : (b : ℕ) → 0 < b → b < 2 ^ 52 → digits b ≡ b * 2 ^ shift b
digits_are b p l = omega (arith, (led b p l).hi)

abbrev Taken : ℕ → ℕ → Type 0
Taken b M = ((shift b % 2 ≡ 0) × (M ≡ digits b)) ⊎ ((shift b % 2 ≡ 0 → ⊥) × (M ≡ digits b * 2))

bounds : (b M : ℕ) → 0 < b → b < 2 ^ 52 → Taken b M → (2 ^ 52 ≤ M) × (M + 2 ≤ 2 ^ 54)
bounds b M p l t =
    let h = led b p l in
    ⊎_elim
    (λ (w : (shift b % 2 ≡ 0) × (M ≡ digits b)). (omega (arith, w.1), omega (arith, w.1)))
    (λ (w : (shift b % 2 ≡ 0 → ⊥) × (M ≡ digits b * 2)). (omega (arith, w.1), omega (arith, w.1)))
    t

up-power : (b s j k : ℕ) → s + j + (k + k) ≡ 1074 → b * 2 ^ 1074 ≡ b * 2 ^ s * 2 ^ j * (2 ^ k * 2 ^ k)
up-power b s j k e =
    ap (λ (y : ℕ). b * 2 ^ y) (sym e)
    ∙ ap (λ (y : ℕ). b * y) (pow-add 2 (s + j) (k + k) ∙ ap (λ (y : ℕ). y * 2 ^ (k + k)) (pow-add 2 s j) ∙ ap (λ (y : ℕ). 2 ^ s * 2 ^ j * y) (pow-add 2 k k))
    ∙ sym (mul_assoc b (2 ^ s * 2 ^ j) (2 ^ k * 2 ^ k))
    ∙ ap (λ (y : ℕ). y * (2 ^ k * 2 ^ k)) (sym (mul_assoc b (2 ^ s) (2 ^ j)))

size_of : (b M : ℕ) → 0 < b → b < 2 ^ 52 → Taken b M → b * 2 ^ 1074 ≡ M * 2 ^ 52 * (2 ^ ((1022 - shift b) / 2) * 2 ^ ((1022 - shift b) / 2))
size_of b M p l t =
    let s = shift b in
    let k = (1022 - s) / 2 in
    let h = led b p l in
    ⊎_elim
    (λ (w : (shift b % 2 ≡ 0) × (M ≡ digits b)).
    up-power b s 52 k (omega (arith, w.0)) ∙ ap (λ (y : ℕ). y * 2 ^ 52 * (2 ^ k * 2 ^ k)) (sym (w.1 ∙ digits_are b p l)))
    (λ (w : (shift b % 2 ≡ 0 → ⊥) × (M ≡ digits b * 2)).
    up-power b s 53 k (omega (arith, w.0)) ∙ ap (λ (y : ℕ). y * (2 ^ k * 2 ^ k))
    (sym (mul_assoc (b * 2 ^ s) 2 (2 ^ 52)) ∙ ap (λ (y : ℕ). y * 2 ^ 52) (sym (w.1 ∙ ap (λ (y : ℕ). y * 2) (digits_are b p l)))))
    t

law : (b M R : ℕ) → 0 < b → b < 2 ^ 52 → Taken b M → Nearest M R → (1022 - shift b) / 2 * 2 ^ 52 + R ≡ to_bits binary64 (sqrt binary64 (of_bits binary64 b))
law b M R p l t n =
    root_pattern (of_bits binary64 b) b M ((1022 - shift b) / 2) R (low_value b l) p (size_of b M p l t) (bounds b M p l t).0 (bounds b M p l t).1
    (omega arith) n

taken : (c : goal.Joined-shift-eq0) → Taken c.args.b c.if-shift-eq0.m
taken c = elim c.if-shift-eq0.branch [ then-shift-eq0 w ↦ inl (w.if-shift-eq0.true, w.m-is) | else-shift-eq0 w ↦ inr (w.if-shift-eq0.false, w.m-is) ]

pub overflow_sub-shift : goal.overflow_sub-shift
overflow_sub-shift c = omega (arith, led c.args.b c.requires.0 c.requires.1)

pub overflow_cast-shift : goal.overflow_cast-shift
overflow_cast-shift c = omega (arith, led c.args.b c.requires.0 c.requires.1)

pub overflow_shl-f : goal.overflow_shl-f
overflow_shl-f c = omega (arith, led c.args.b c.requires.0 c.requires.1)

pub overflow_mul-m : goal.overflow_mul-m
overflow_mul-m c = omega (arith, led c.args.b c.requires.0 c.requires.1)

pub overflow_sub-result : goal.overflow_sub-result
overflow_sub-result c = omega (arith, led c.args.b c.requires.0 c.requires.1)

pub by_digits-requires : goal.by_digits-requires
by_digits-requires c = omega (arith, bounds c.args.b c.if-shift-eq0.m c.requires.0 c.requires.1 (taken c))

pub overflow_add-result : goal.overflow_add-result
overflow_add-result c =
    let d = c in
    omega (
      arith,
      root_hi d.if-shift-eq0.m c.by_digits.result (bounds d.args.b d.if-shift-eq0.m d.requires.0 d.requires.1 (taken d.before)).1
          c.by_digits.ensures,
    )

pub returns : goal.returns
returns c =
    let d = c in
    law d.args.b d.if-shift-eq0.m c.by_digits.result d.requires.0 d.requires.1 (taken d.before) c.by_digits.ensures
