-- LAWS. Pieces add up, and a worked sum. Assumes nothing.
use Rattle.std.specs.Prelude.{ℕ, ◌≡◌, refl, List, [], ◌∷◌, ◌++◌}
use Rattle.checksum.specs.Checksum.{step, steps, with_byte, with_bytes, length_bytes, ended, checksum}

-- the sum over bytes, and then over more, is that over all of them
pub pieces : (s : ℕ) (a b : List ℕ) → with_bytes s (a ++ b) ≡ with_bytes (with_bytes s a) b
unfolding with_bytes
pieces s [] b = refl
pieces s (x ∷ a) b = pieces (with_byte s x) a b

-- `printf 123456789 | cksum` prints 930766865 9
pub nine-digits : checksum (49 ∷ 50 ∷ 51 ∷ 52 ∷ 53 ∷ 54 ∷ 55 ∷ 56 ∷ 57 ∷ []) ≡ 930766865
unfolding checksum ended length_bytes with_bytes with_byte steps step
nine-digits = refl
