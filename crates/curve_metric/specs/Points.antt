-- LAWS. `rows_of`: points that stand flat in a list, ch numbers each. Assumes nothing.
use Rattle.std.specs.Prelude.{◌≡◌, List, [], ℕ, ◌+◌, ◌*◌, ◌<◌, ◌≤◌, length, drop, Float}
use Rattle.std.proofs.Common.{suc-mul, mul-le-mul_right, le_trans, arith, length-drop, length-take-le, get_or-take, get_or-drop}
use Rattle.floats.specs.Numbers.{at}
use Rattle.floats.specs.Lists.{row, rows_of}
use Rattle.floats.specs.Fill.{length-upto, at-upto}
use Rattle.curve_metric.specs.Metric.{point_of}

pub length-rows : (xs : List Float) (ch n : ℕ) → length (rows_of xs ch n) ≡ n
unfolding rows_of
length-rows xs ch n = length-upto (row xs ch) n

pub point-rows : (xs : List Float) (ch n k : ℕ) → k < n → point_of (rows_of xs ch n) k ≡ row xs ch k
unfolding rows_of
point-rows xs ch n k h = at-upto (row xs ch) n k [] h

-- point k of n lies within the list
pub row_fits_lem : (k n ch len : ℕ) → k < n → n * ch ≤ len → k * ch + ch ≤ len
row_fits_lem k n ch len h hl = rw (← suc-mul k ch) (le_trans (mul-le-mul_right ch (omega arith)) hl)

pub length-row : (xs : List Float) (ch k : ℕ) → k * ch + ch ≤ length xs → length (row xs ch k) ≡ ch
length-row xs ch k h = length-take-le ch (drop (k * ch) xs) (rw length-drop (omega arith))

pub at_row : (xs : List Float) (ch k c : ℕ) → c < ch → at (row xs ch k) c ≡ at xs (k * ch + c)
at_row xs ch k c h = rw (get_or-take, get_or-drop)
