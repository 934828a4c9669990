-- DEFINITIONS. Which names of files may stand. Assumes nothing.
use Rattle.std.specs.Prelude.{ℕ, Bool, ◌&&◌, not, List, eqb, ltb, length, get_or}
use Rattle.floats.specs.Lists.{all}

abbrev pub quote : ℕ
quote = 34

-- no byte below 32, no comma, no quote
unfoldable pub byte_stands : ℕ → Bool
byte_stands b = not (ltb b 32) && (not (eqb b 44) && not (eqb b quote))

unfoldable pub may_stand : List ℕ → Bool
may_stand t = all (length t) (λ (i : ℕ). byte_stands (get_or t i 0))
