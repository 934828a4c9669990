-- CONTRACTS. The greatest digits whose root is within a bound, and which patterns are compared by digits. Assumes nothing.
use Rattle.std.specs.Prelude.{ℕ, ◌+◌, ◌*◌, ◌/◌, ◌^◌, Bool, ◌&&◌, leb, ltb}

-- the greatest m for which the whole number nearest to √(m * 2 ^ 52) is at most t
abbrev pub greatest : ℕ → ℕ
greatest t = (t * t + t) / 2 ^ 52

-- the pattern of a number above 0 that is finite and not subnormal
abbrev pub normal : ℕ → Bool
normal b = leb (2 ^ 52) b && ltb b (2047 * 2 ^ 52)
