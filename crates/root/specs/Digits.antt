-- CONTRACTS. The binary digits of a pattern as its root takes them. Assumes nothing.
use Rattle.std.specs.Prelude.{ℕ, ◌+◌, ◌*◌, ◌/◌, ◌%◌, ◌^◌, cond, eqb}

-- the 53 digits, twice where the exponent is even: the rest is then an even power of two
abbrev pub digits : ℕ → ℕ
digits b = b % 2 ^ 52 + 2 ^ 52

abbrev pub taken : ℕ → ℕ
taken b = cond (eqb (b / 2 ^ 52 % 2) 0) (digits b * 2) (digits b)
