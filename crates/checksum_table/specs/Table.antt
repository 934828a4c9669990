-- CONTRACTS. The table of what a first byte leaves. Assumes nothing.
use Rattle.std.specs.Prelude.{ℕ, ◌*◌, ◌<◌, ◌^◌, ◌≡◌, List, length, get_or}
use Rattle.checksum.specs.Checksum.{tail_bits, steps}

-- what the first byte k leaves behind its eight bits
abbrev pub leaves : ℕ → ℕ
leaves k = steps 8 (k * 2 ^ tail_bits)

-- the first n of its 256 entries are made
pub record TableTo (n : ℕ) (table : List ℕ) : Type 0 where
  pub long : length table ≡ 256
  pub is : (k : ℕ) → k < n → get_or table k 0 ≡ leaves k
