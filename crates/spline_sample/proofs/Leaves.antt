-- LAWS. What the leaves of the code say. Assumes nothing.
use Prim.Native.Nat.{ℕ, ◌+◌, ◌-◌, ◌≤◌}
use mathlib.Core.Path.{◌≡◌}
use mathlib.Core.Bool.{true, false}
use mathlib.Core.List.{List}
use native.Mathlib.Nat.{le_refl}
use native.Mathlib.Omega.{arith}
use lib.ListN.{length, get_or, take, drop, replicate, length-drop}
use lib.Seq.{take_all}
use Rattle.floats.specs.Lists.{filled}
use Rattle.floats.specs.Fill.{length-filled}
use Rattle.layout.specs.Layout.{axis_codes, r_cells}
use Rattle.row_cells.specs.Bits.{has}
use Rattle.spline_sample.specs.Raw.{raw_word}

pub word-yes : (mask : ℕ) (places xs : List ℕ) (from k : ℕ) → has mask k ≡ true → get_or xs (from + get_or places k 0) 0 ≡ raw_word mask places xs from k
unfolding raw_word
word-yes mask places xs from k e = rw e

pub word-no : (mask : ℕ) (places xs : List ℕ) (from k : ℕ) → has mask k ≡ false → 0 ≡ raw_word mask places xs from k
unfolding raw_word
word-no mask places xs from k e = rw e

-- ---- the cells of a row, and the words of a sample
pub cells_of : (row : List ℕ) → take (length row - r_cells) (drop r_cells row) ≡ drop r_cells row
cells_of row = take_all (length row - r_cells) (drop r_cells row) (rw (length-drop r_cells row) (le_refl (length row - r_cells)))

pub words-wide : (f : ℕ → ℕ) → axis_codes ≤ length (filled f axis_codes (replicate axis_codes 0))
words-wide f = rw (length-filled f (replicate axis_codes 0) axis_codes (omega arith)) (omega arith)
