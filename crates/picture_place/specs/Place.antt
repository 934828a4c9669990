-- DEFINITIONS. A coordinate of a picture: millionths of a millimetre, counted from `origin` on. Assumes nothing.
use Rattle.std.specs.Prelude.{ℕ, ◌+◌, ◌-◌, cond, List, ◌∷◌, leb, ltb, Float}
use Rattle.std.specs.Float.Ieee.{lt}
use Rattle.floats.specs.Numbers.{num}
use Rattle.csv_decimal.specs.Decimal.{millionths}
use Rattle.csv_figures.specs.Write.{millionths_text}

abbrev pub origin : ℕ
origin = 1000000000000000

-- numbers of row text are below 10^9, so none is farther from it
abbrev pub farthest : ℕ
farthest = 999999999999999

unfoldable pub near : ℕ → ℕ
near v = cond (leb v farthest) v farthest

-- the place of a number
unfoldable pub place_of : Float → ℕ
place_of x = cond (lt x (num 0)) (origin - near (millionths x)) (origin + near (millionths x))

-- the place on the other side of the origin
unfoldable pub across : ℕ → ℕ
across p = cond (ltb p origin) (origin + near (origin - p)) (origin - near (p - origin))

-- its text, in millimetres, never longer than its room
abbrev pub place_room : ℕ
place_room = 17

unfoldable pub place_text : ℕ → List ℕ
place_text p = cond (ltb p origin) (45 ∷ millionths_text (near (origin - p))) (millionths_text (near (p - origin)))
