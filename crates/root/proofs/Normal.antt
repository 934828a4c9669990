-- LAWS. The root of a number above 0, finite and not subnormal, by the digits that its root takes. Assumes nothing.
use Rattle.std.specs.Prelude.{ℕ, ◌+◌, ◌-◌, ◌*◌, ◌/◌, ◌%◌, ◌^◌, ◌≤◌, ◌<◌, ◌≡◌, refl, ◌⊎◌, Bool, true, false, cond, T, eqb, Float}
use Rattle.std.proofs.Common.{sym, ap, ◌∙◌, subst, inl, inr, ⊎_elim, lt_of_lt_of_le, mul_assoc, mul-pos, add_comm, arith, eqb→eq, pow_pos, pow_mono, shl_lt}
use Rattle.std.specs.Float.{binary64}
use Rattle.std.specs.Float.Ieee.{to_bits, of_bits}
use Rattle.std.specs.Float.Ieee.Exact.{HasValue, units_val}
use Rattle.root_near.specs.Nearest.{Nearest}
use Rattle.root.specs.Root.{root_units, sqrt}
use Rattle.root.specs.Digits.{digits, taken}
use Rattle.root.proofs.Rounded.{root-units}
use Rattle.root.proofs.Values.{sqrt_of_value, root_pattern, normal-value, even_power}
use Rattle.root_near.specs.OneNearest.{root_hi}

abbrev pub exponent : ℕ → ℕ
exponent b = b / 2 ^ 52

-- the digits as the root takes them: twice where the exponent is even
abbrev pub Taken : ℕ → ℕ → Type 0
Taken b M = ((exponent b % 2 ≡ 0) × (M ≡ digits b * 2)) ⊎ ((exponent b % 2 ≡ 0 → ⊥) × (M ≡ digits b))

pub bounds : (b M : ℕ) → Taken b M → (2 ^ 52 ≤ M) × (M + 2 ≤ 2 ^ 54)
bounds b M t = ⊎_elim (λ w. (omega arith, omega arith)) (λ w. (omega arith, omega arith)) t

pub size_of : (b M : ℕ) → 2 ^ 52 ≤ b → Taken b M → (2 ^ 52 + b % 2 ^ 52) * 2 ^ (exponent b - 1) * 2 ^ 1074
    ≡ M * 2 ^ 52 * (2 ^ ((exponent b + 1021) / 2) * 2 ^ ((exponent b + 1021) / 2))
size_of b M lo t =
    let F = 2 ^ 52 + b % 2 ^ 52 in
    let k = (exponent b + 1021) / 2 in
    let same : digits b ≡ F = add_comm (b % 2 ^ 52) (2 ^ 52) in
    ⊎_elim
    (λ (w : (exponent b % 2 ≡ 0) × (M ≡ digits b * 2)).
    even_power F (exponent b - 1) 53 k (omega (arith, w.0))
    ∙ ap (λ (y : ℕ). y * (2 ^ k * 2 ^ k)) (sym (mul_assoc F 2 (2 ^ 52)) ∙ ap (λ (y : ℕ). y * 2 ^ 52) (sym (w.1 ∙ ap (λ (y : ℕ). y * 2) same))))
    (λ (w : (exponent b % 2 ≡ 0 → ⊥) × (M ≡ digits b)).
    even_power F (exponent b - 1) 52 k (omega (arith, w.0)) ∙ ap (λ (y : ℕ). y * 2 ^ 52 * (2 ^ k * 2 ^ k)) (sym (w.1 ∙ same)))
    t

pub law : (b M R : ℕ) → 2 ^ 52 ≤ b → b < 2047 * 2 ^ 52 → Taken b M → Nearest M R
    → (exponent b + 1021) / 2 * 2 ^ 52 + R ≡ to_bits binary64 (sqrt binary64 (of_bits binary64 b))
law b M R lo hi t n =
    root_pattern (of_bits binary64 b) ((2 ^ 52 + b % 2 ^ 52) * 2 ^ (exponent b - 1)) M ((exponent b + 1021) / 2) R
    (normal-value b lo hi) (mul-pos (omega arith) (pow_pos (exponent b - 1))) (size_of b M lo t) (bounds b M t).0 (bounds b M t).1 (omega arith) n

-- the digits as the code takes them
pub taken_is : (b : ℕ) → Taken b (taken b)
taken_is b = go (eqb (exponent b % 2) 0) (eqb→eq (exponent b % 2) 0) (λ e. subst (λ (y : ℕ). T (eqb y 0)) (sym e) tt)
  where
    go : (t : Bool) → (T t → exponent b % 2 ≡ 0) → (exponent b % 2 ≡ 0 → T t) → Taken b (cond t (digits b * 2) (digits b))
    go true f g = inl (f tt, refl)
    go false f g = inr (g, refl)

-- the root's size
pub root-value : (b M R : ℕ) → 2 ^ 52 ≤ b → b < 2047 * 2 ^ 52 → Taken b M → Nearest M R
    → HasValue (sqrt binary64 (of_bits binary64 b)) false (R * 2 ^ ((exponent b + 1021) / 2)) (2 ^ 1074)
root-value b M R lo hi t n =
    let k = (exponent b + 1021) / 2 in
    let a = (2 ^ 52 + b % 2 ^ 52) * 2 ^ (exponent b - 1) in
    let M-lt : M < 2 ^ 54 = omega (arith, bounds b M t) in
    let fine : R * 2 ^ k < 2 ^ 2098 = lt_of_lt_of_le (shl_lt 53 k (root_hi M R (bounds b M t).1 n)) (pow_mono {i = 53 + k} {j = 2098} (omega arith)) in
    subst (λ (y : Float). HasValue y false (R * 2 ^ k) (2 ^ 1074))
    (sym (sqrt_of_value (of_bits binary64 b) a (mul-pos (omega arith) (pow_pos (exponent b - 1))) (normal-value b lo hi)
    ∙ ap (root_units binary64) (size_of b M lo t) ∙ root-units M k R (bounds b M t).0 M-lt n))
    (units_val binary64 false R k fine)
