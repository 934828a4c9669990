-- DEFINITIONS. The checksum that POSIX `cksum` prints: a remainder of polynomials, bit by bit from the top. Assumes nothing.
use Rattle.std.specs.Prelude.{ℕ, zero, suc, ◌-◌, ◌*◌, ◌/◌, ◌%◌, ◌^◌, cond, List, [], ◌∷◌, eqb, length}
use Rattle.std.specs.Int.Bits.{bit_xor}

-- bits of a sum, but for the top one; and of what stands behind a sum's first byte
abbrev pub low_bits : ℕ
low_bits = 31

abbrev pub tail_bits : ℕ
tail_bits = 24

-- x^26 + x^23 + x^22 + x^16 + x^12 + x^11 + x^10 + x^8 + x^7 + x^5 + x^4 + x^2 + x + 1: what x^32 leaves
abbrev pub polynomial : ℕ
polynomial = 0x04c11db7

-- one bit on: the sum is multiplied by x, and a top bit goes for what x^32 leaves
unfoldable pub step : ℕ → ℕ
step s = let d = s % 2 ^ low_bits * 2 in cond (eqb (s / 2 ^ low_bits % 2) 0) d (bit_xor d polynomial)

unfoldable pub steps : ℕ → ℕ → ℕ
steps zero s = s
steps (suc n) s = step (steps n s)

-- a byte meets the sum's first byte, and its eight bits are gone through
unfoldable pub with_byte : ℕ → ℕ → ℕ
with_byte s b = steps 8 (bit_xor s (b * 2 ^ tail_bits))

unfoldable pub with_bytes : ℕ → List ℕ → ℕ
with_bytes s [] = s
with_bytes s (b ∷ bs) = with_bytes (with_byte s b) bs

-- a number below 256^k by its bytes, the lowest first, and no more than it has
unfoldable pub length_bytes : ℕ → ℕ → List ℕ
length_bytes zero n = []
length_bytes (suc k) n = cond (eqb n 0) [] (n % 256 ∷ length_bytes k (n / 256))

-- all bits turned
abbrev pub turned : ℕ → ℕ
turned s = 2 ^ 32 - 1 - s % 2 ^ 32

-- behind the bytes come those of their number, and then all bits are turned
unfoldable pub ended : ℕ → ℕ → ℕ
ended s n = turned (with_bytes s (length_bytes 8 n))

unfoldable pub checksum : List ℕ → ℕ
checksum bytes = ended (with_bytes 0 bytes) (length bytes)
