-- LAWS. Bounds of products of natural numbers. Assumes nothing.
use Rattle.std.proofs.Common.{sym, subst, le_of_lt, lt_of_le_of_lt, mul-le-mul_right, pow-add, pow_pos}
use Rattle.std.specs.Prelude.{ℕ, ◌+◌, ◌*◌, ◌^◌, ◌<◌}
use Rattle.std.proofs.Math.Nat.{mul-lt-mul_of_pos_left}

pub mul_lt_pow : {a b : ℕ} (i j : ℕ) → a < 2 ^ i → b < 2 ^ j → a * b < 2 ^ (i + j)
mul_lt_pow {a} {b} i j h l = subst (λ (x : ℕ). a * b < x) (sym (pow-add 2 i j))
    (lt_of_le_of_lt (mul-le-mul_right b (le_of_lt h)) (mul-lt-mul_of_pos_left l (pow_pos i)))
