-- DEFINITIONS. The bits of a number, and masks. Assumes nothing.
use Rattle.std.specs.Prelude.{ℕ, zero, suc, ◌+◌, ◌-◌, ◌/◌, ◌%◌, ◌^◌, Bool, cond, eqb}
use Rattle.std.specs.Int.Count.{count_trailing_zeros}

-- bit k of p is set
unfoldable pub has : ℕ → ℕ → Bool
has p k = eqb (p / 2 ^ k % 2) 1

-- p with bit k set
unfoldable pub with_bit : ℕ → ℕ → ℕ
with_bit p k = cond (has p k) p (p + 2 ^ k)

-- the number whose bits below n are f's
unfoldable pub mask_sum : (ℕ → Bool) → ℕ → ℕ
mask_sum f zero = 0
mask_sum f (suc n) = mask_sum f n + cond (f n) (2 ^ n) 0

-- the lowest set bit of a word, and the word without it
abbrev pub lowest : ℕ → ℕ
lowest p = count_trailing_zeros 64 p

abbrev pub others : ℕ → ℕ
others p = p - 2 ^ lowest p
