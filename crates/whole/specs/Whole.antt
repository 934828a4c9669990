-- DEFINITIONS. A float rounded up, truncated, and to the nearest with halves up, over its fraction m * up e / down e. Assumes nothing.
use Rattle.std.specs.Prelude.{ℕ, ◌+◌, ◌-◌, ◌*◌, ◌/◌, cond, Float}
use Rattle.std.specs.Float.{nan, inf, fin}
use Rattle.std.specs.Float.Ieee.{up, down, lt}
use Rattle.floats.specs.Numbers.{num, f0}

abbrev pub two_to52 : Float
two_to52 = num 0x4330000000000000

abbrev pub two_to53 : Float
two_to53 = num 0x4340000000000000

-- the least whole number that is not below x, of a finite x at or above zero
abbrev pub ceil_of : Float → ℕ
ceil_of nan = 0
ceil_of (inf s) = 0
ceil_of (fin s m e) = (m * up e + (down e - 1)) / down e

-- the whole number nearest to x, a half going up, of a finite x at or above zero
abbrev pub half_up_of : Float → ℕ
half_up_of nan = 0
half_up_of (inf s) = 0
half_up_of (fin s m e) = (2 * (m * up e) + down e) / (2 * down e)

-- the whole part of a finite x at or above zero
abbrev pub trunc_of : Float → ℕ
trunc_of nan = 0
trunc_of (inf s) = 0
trunc_of (fin s m e) = m * up e / down e

-- each of them held in 0 to 2 ^ 53 (2 ^ 52 for halves); 0 of a NaN
unfoldable pub ceil_count : Float → ℕ
ceil_count x = cond (lt f0 x) (cond (lt x two_to53) (ceil_of x) 9007199254740992) 0

unfoldable pub half_up_count : Float → ℕ
half_up_count x = cond (lt f0 x) (cond (lt x two_to52) (half_up_of x) 4503599627370496) 0

unfoldable pub trunc_count : Float → ℕ
trunc_count x = cond (lt f0 x) (cond (lt x two_to53) (trunc_of x) 9007199254740992) 0
