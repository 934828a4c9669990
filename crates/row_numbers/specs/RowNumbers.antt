-- DEFINITIONS. What the numbers of an incoming row are refused for: refusals 3 and 5. Assumes nothing.
use Rattle.std.specs.Prelude.{ℕ, ◌%◌, Bool, ◌&&◌, ◌||◌, not, List, leb, ltb}
use Rattle.floats.specs.Lists.{all}
use Rattle.layout.specs.Layout.{cells, c_turn}
use Rattle.row_cells.specs.Bits.{has}
use Rattle.row_cells.specs.Row.{present_of, raw_word}

-- numbers by their bits: those from here on are negative; a thousand million; a thousand
abbrev pub sign_bit : ℕ
sign_bit = 0x8000000000000000

abbrev pub most_number : ℕ
most_number = 0x41CDCD6500000000

abbrev pub most_turns : ℕ
most_turns = 0x408F400000000000

-- 3: a number that is there, or a seed, is not finite or farther from zero than the largest
unfoldable pub within : ℕ → Bool
within x = leb (x % sign_bit) most_number

unfoldable pub cell_ok : List ℕ → ℕ → Bool
cell_ok r k = not (has (present_of r) k) || within (raw_word r k)

unfoldable pub numbers_ok : List ℕ → Bool
numbers_ok r = all cells (cell_ok r)

-- 5: a TURN above a thousand
unfoldable pub above1000 : ℕ → Bool
above1000 x = ltb x sign_bit && ltb most_turns x

unfoldable pub turn_ok : List ℕ → Bool
turn_ok r = not (has (present_of r) c_turn) || not (above1000 (raw_word r c_turn))
