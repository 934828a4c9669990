-- CONTRACTS. A word as a number, for a table of numbers: its bytes, and then how many there are. Assumes nothing.
use Rattle.std.specs.Prelude.{ℕ, zero, suc, ◌+◌, ◌*◌, ◌/◌, ◌%◌, ◌^◌, List, [], ◌∷◌, length}

unfoldable pub pack : ℕ → List ℕ → ℕ
pack n [] = n
pack n (c ∷ t) = pack (n * 256 + c) t

unfoldable pub word_number : List ℕ → ℕ
unfolding pack
word_number t = pack 0 t * 8 + length t

-- the k last bytes of v
unfoldable pub chars : ℕ → ℕ → List ℕ
chars zero v = []
chars (suc k) v = (v / 2 ^ (8 * k) % 256) ∷ chars k v
