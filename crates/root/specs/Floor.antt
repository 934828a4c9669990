-- LAWS. `floor_root d n` is the whole part of n's root, for an n below 4 ^ d. Assumes nothing.
use Rattle.std.specs.Prelude.{◌≡◌, ℕ, zero, suc, ◌*◌, ◌/◌, ◌^◌, ◌≤◌, ◌<◌, Bool, true, false, not, cond, T, leb}
use Rattle.std.proofs.Common.{ap, ◌∙◌, zero-le, mul_assoc, mul_comm, mul_left_comm, pow-suc, arith, leb→le}
use Rattle.std.proofs.Math.Dec.{nleb→lt}
use Rattle.root.specs.Root.{floor_root}

four : (y : ℕ) → 2 * (2 * y) ≡ 4 * y
four y = omega arith

square_of_twice : (r : ℕ) → 2 * r * (2 * r) ≡ 4 * (r * r)
square_of_twice r = simp (mul_assoc, mul_comm, mul_left_comm) (four (r * r))

two-more : (r : ℕ) → suc (suc (2 * r)) ≡ 2 * suc r
two-more r = omega arith

square_of_two_more : (r : ℕ) → suc (suc (2 * r)) * suc (suc (2 * r)) ≡ 4 * (suc r * suc r)
square_of_two_more r = ap (λ (x : ℕ). x * x) (two-more r) ∙ square_of_twice (suc r)

-- one more digit
more : (n r : ℕ) (t : Bool) → r * r ≤ n / 4 → n / 4 < suc r * suc r → (T t → suc (2 * r) * suc (2 * r) ≤ n) → (T (not t) → n < suc (2 * r) * suc (2 * r))
    → (cond t (suc (2 * r)) (2 * r) * cond t (suc (2 * r)) (2 * r) ≤ n) × (n < suc (cond t (suc (2 * r)) (2 * r)) * suc (cond t (suc (2 * r)) (2 * r)))
more n r true lo hi a b = (a tt, omega (arith, square_of_two_more r))
more n r false lo hi a b = (omega (arith, square_of_twice r), b tt)

pub floor-root : (d n : ℕ) → n < 4 ^ d → (floor_root d n * floor_root d n ≤ n) × (n < suc (floor_root d n) * suc (floor_root d n))
unfolding floor_root
floor-root zero n h = (zero-le, h)
floor-root (suc d) n h =
    let r = floor_root d (n / 4) in
    let odd = suc (2 * r) * suc (2 * r) in
    let ih = floor-root d (n / 4) (omega (arith, pow-suc 4 d)) in
    more n r (leb odd n) ih.0 ih.1 (leb→le odd n) (nleb→lt odd n)
