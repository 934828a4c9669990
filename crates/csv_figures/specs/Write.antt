-- DEFINITIONS. How numbers and source lines are written: rules 7.7, 7.10, 7.11. Assumes nothing.
use Rattle.std.specs.Prelude.{ℕ, zero, suc, ◌+◌, ◌/◌, ◌%◌, ◌^◌, Bool, cond, ◌&&◌, List, [], ◌∷◌, ◌++◌, ltb, Float}
use Rattle.std.specs.Float.{binary64}
use Rattle.std.specs.Float.Ieee.{lt, of_bits}
use Rattle.csv_decimal.specs.Decimal.{millionths, width}

-- the k last digits of v
unfoldable pub figures : ℕ → ℕ → List ℕ
figures zero v = []
figures (suc k) v = (48 + v / 10 ^ k % 10) ∷ figures k v

-- v without leading zeros, for a v below 10 ^ 10
abbrev pub whole_text : ℕ → List ℕ
whole_text v = figures (width v) v

-- n millionths, with six decimals
unfoldable pub millionths_text : ℕ → List ℕ
unfolding figures
millionths_text n = whole_text (n / 1000000) ++ (46 ∷ figures 6 n)

-- 7.10: a minus only in front of what is not all zeros
unfoldable pub number_text : Float → List ℕ
unfolding millionths_text
number_text x = cond (lt x (of_bits binary64 0) && ltb 0 (millionths x)) (45 ∷ millionths_text (millionths x)) (millionths_text (millionths x))

-- 7.11: what has a text; the infinities and NaN have none
abbrev pub shown : Float → Bool
shown x = ltb (millionths x) 1000000000000000
