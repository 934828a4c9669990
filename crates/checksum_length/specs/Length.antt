-- CONTRACTS. A length byte by byte. Assumes nothing.
use Rattle.std.specs.Prelude.{ℕ, ◌%◌, cond, eqb}
use Rattle.checksum.specs.Checksum.{with_byte}

-- the next byte of a length, where one is left
abbrev pub length_step : ℕ → ℕ → ℕ
length_step s n = cond (eqb n 0) s (with_byte s (n % 256))
