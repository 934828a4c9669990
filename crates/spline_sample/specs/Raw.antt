-- DEFINITIONS. A row of a held block, of a sample whose words stand among others, as the code writes it. Assumes nothing.
use Rattle.std.specs.Prelude.{ℕ, ◌+◌, ◌*◌, true, false, cond, not, ◌&&◌, List, eqb, get_or, take, drop}
use Rattle.std.proofs.Math.Option.{Option, none, some}
use Rattle.row_cells.specs.Bits.{has}
use Rattle.row_cells.specs.Row.{cell, axes_of}
use Rattle.row_made.specs.Made.{made_row}
use Rattle.spline_places.specs.declared.frame.Frame.{Frame}
use Rattle.spline_places.specs.declared.place.Place.{Place}
use Rattle.spline_marks.specs.Marks.{raw_mark, raw_motion}

-- cell k of a sample with the words ws
unfoldable pub raw_cell : ℕ → List ℕ → List ℕ → ℕ → Option ℕ
raw_cell mask places ws k = cond (has mask k) (some (get_or ws (get_or places k 0) 0)) none

unfoldable pub raw_own : Frame → List ℕ → ℕ → Option ℕ
raw_own o r k = cond (has o.axes k && not o.basis) (cell r k) none

-- the words of sample q, and of the samples of the block at p
unfoldable pub raw_at : ℕ → List ℕ → ℕ → List ℕ
raw_at ch xs q = take ch (drop (q * ch) xs)

abbrev pub samples_at : Frame → List ℕ → Place → ℕ → List ℕ
samples_at o xs p = λ (u : ℕ). raw_at o.ch xs (p.samples + u)

-- row t of a block with c samples, before which j point blocks lie; the one row of a block without samples
unfoldable pub raw_row : Frame → List ℕ → ℕ → ℕ → List ℕ → (ℕ → List ℕ) → ℕ → List ℕ
raw_row o places j c r raw t = made_row (axes_of o.axes) r (eqb t 0) (raw_motion j) (raw_mark o j c t) (raw_cell o.mask places (raw t))

unfoldable pub bare_row : Frame → ℕ → List ℕ → List ℕ
bare_row o j r = made_row (axes_of o.axes) r true (raw_motion j) false (raw_own o r)

-- the word of axis k in the sample that begins at word `from`
unfoldable pub raw_word : ℕ → List ℕ → List ℕ → ℕ → ℕ → ℕ
raw_word mask places xs from k = cond (has mask k) (get_or xs (from + get_or places k 0) 0) 0
