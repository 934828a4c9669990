-- DEFINITIONS. A tolerance: rule 7.8. Assumes nothing.
use Rattle.std.specs.Prelude.{ℕ, Bool, false, List, Option, Some, None, Float}
use Rattle.std.specs.Float.{binary64}
use Rattle.std.specs.Float.Ieee.{lt, of_bits}
use Rattle.floats.specs.Numbers.{bits}
use Rattle.csv_fields.specs.Read.{number}

abbrev pub above_zero : Option Float → Bool
above_zero (Some x) = lt (of_bits binary64 0) x
above_zero None = false

abbrev pub bits_in : Option Float → ℕ
bits_in (Some x) = bits x
bits_in None = 0

unfoldable pub is_tolerance : List ℕ → Bool
is_tolerance t = above_zero (number t)

unfoldable pub bits_of : List ℕ → ℕ
bits_of t = bits_in (number t)
