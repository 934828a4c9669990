-- LAWS. A row as the code makes it, of a sample or of its block alone, is the definition's. Assumes nothing.
use Prim.Native.Nat.{ℕ, ◌+◌, ◌*◌, ◌<◌}
use mathlib.Core.Path.{◌≡◌, refl, sym, ◌∙◌, ap}
use mathlib.Core.Bool.{Bool, true, false, cond, not, ◌&&◌, and-true, and-false}
use mathlib.Core.List.{List}
use mathlib.Core.Option.{none, some}
use native.Mathlib.Omega.{arith}
use lib.Bits.{bit_and, and_le_l}
use lib.Dec.{eqb}
use lib.ListN.{get_or, take, drop, replicate}
use lib.Seq.{get_or-take, get_or-drop}
use Rattle.floats.specs.Lists.{filled, spliced}
use Rattle.floats.specs.Fill.{at-filled}
use Rattle.layout.specs.Layout.{axis_codes, axis_masks, row_words, r_cells}
use Rattle.row_cells.specs.Bits.{has}
use Rattle.row_cells.specs.Row.{present_of, cell, shown, axes_of}
use Rattle.row_made.specs.Made.{made_row}
use Rattle.row_made.specs.MadeLaws.{made-same}
use Rattle.row_cells.specs.Masks.{has-none}
use Rattle.row_cells.specs.BitOps.{has_and}
use Rattle.spline_places.specs.declared.frame.Frame.{Frame}
use Rattle.spline_places.specs.declared.place.Place.{Place}
use Rattle.spline_marks.specs.Marks.{raw_mark, raw_motion}
use Rattle.spline_sample.specs.Raw.{raw_cell, raw_own, raw_word, raw_at, samples_at, raw_row, bare_row}
use Rattle.spline_sample.specs.Puts.{Sound, OwnMask, Written, RowPut, BarePut}
use Rattle.spline_sample.specs.SampleLaws.{bit_below}

-- ---- the cells of a sample
word-is : (mask : ℕ) (places xs : List ℕ) (from k : ℕ) → has mask k ≡ true → raw_word mask places xs from k ≡ get_or xs (from + get_or places k 0) 0
unfolding raw_word
word-is mask places xs from k e = rw e

-- the words of the sample at `from`, each at its axis
abbrev words_at : ℕ → List ℕ → List ℕ → ℕ → List ℕ
words_at mask places xs from = filled (raw_word mask places xs from) axis_codes (replicate axis_codes 0)

sample_cells : (mask ch from : ℕ) (places xs : List ℕ) → mask < axis_masks → ((k : ℕ) → has mask k ≡ true → get_or places k 0 < ch) → (k : ℕ)
    → shown mask (words_at mask places xs from) k ≡ raw_cell mask places (take ch (drop from xs)) k
unfolding shown raw_cell
sample_cells mask ch from places xs small inside k = one (has mask k) refl
  where
    there : has mask k ≡ true → get_or (words_at mask places xs from) k 0 ≡ get_or (take ch (drop from xs)) (get_or places k 0) 0
    there e =
        at-filled (raw_word mask places xs from) (replicate axis_codes 0) axis_codes k 0 (bit_below mask k small e) ∙ word-is mask places xs from k e
        ∙ sym (get_or-take ch (drop from xs) (get_or places k 0) 0 (inside k e) ∙ get_or-drop from xs (get_or places k 0) 0)

    one : (b : Bool) → has mask k ≡ b
        → cond b (some (get_or (words_at mask places xs from) k 0)) none ≡ cond b (some (get_or (take ch (drop from xs)) (get_or places k 0) 0)) none
    one false e = refl
    one true e = ap some (there e)

module _ (o : Frame) (places : List ℕ) (p : Place) (c : ℕ) (row xs : List ℕ) (t motion : ℕ) (marked : Bool)
    (h : Sound o places) (em : motion ≡ raw_motion p.points) (ek : marked ≡ raw_mark o p.points c t) where
  sample_row : made_row (axes_of o.axes) row (eqb t 0) motion marked (shown o.mask (words_at o.mask places xs ((p.samples + t) * o.ch)))
      ≡ raw_row o places p.points c row (samples_at o xs p) t
  unfolding raw_row raw_at
  sample_row = rw (em, ek)
      (made-same (axes_of o.axes) (axes_of o.axes) row (eqb t 0) (raw_motion p.points) (raw_mark o p.points c t) _ _ (λ k l. refl)
      (λ k l. sample_cells o.mask o.ch ((p.samples + t) * o.ch) places xs h.mask h.inside k))

  pub sample_put : (words ys : List ℕ) → words ≡ words_at o.mask places xs ((p.samples + t) * o.ch)
      → Written (p.rows + t) (made_row (axes_of o.axes) row (eqb t 0) motion marked (shown o.mask words)) xs ys → RowPut o places p c row t xs ys
  sample_put words ys ew is = is ∙ ap (spliced xs ((p.rows + t) * row_words)) (rw ew sample_row)

-- ---- the bare row's cells
pub own-none : (o : Frame) (row : List ℕ) → o.basis ≡ true → OwnMask o row 0
own-none o row e = record { small = omega arith; is = λ k. has-none k ∙ rw e (sym (and-false (has o.axes k && has (present_of row) k))) }

pub own-both : (o : Frame) (row : List ℕ) → o.axes < axis_masks → o.basis ≡ false → OwnMask o row (bit_and o.axes (present_of row))
own-both o row h e = record {
  small = omega (arith, and_le_l o.axes (present_of row));
  is = λ k. has_and o.axes (present_of row) k ∙ rw e (sym (and-true (has o.axes k && has (present_of row) k)));
}

own-cells : (o : Frame) (row : List ℕ) (m : ℕ) → OwnMask o row m → (k : ℕ) → shown m (drop r_cells row) k ≡ raw_own o row k
unfolding shown raw_own cell
own-cells o row m q k =
    rw (q.is k, get_or-drop r_cells row k 0) (pick (has o.axes k) (has (present_of row) k) (not o.basis) (get_or row (r_cells + k) 0))
  where
    pick : (a b n : Bool) (x : ℕ) → cond ((a && b) && n) (some x) none ≡ cond (a && n) (cond b (some x) none) none
    pick true true n x = refl
    pick true false true x = refl
    pick true false false x = refl
    pick false b n x = refl

module _ (o : Frame) (p : Place) (row words : List ℕ) (m motion : ℕ)
    (q : OwnMask o row m) (em : motion ≡ raw_motion p.points) (ew : words ≡ drop r_cells row) where
  bare-row : made_row (axes_of o.axes) row true motion false (shown m words) ≡ bare_row o p.points row
  unfolding bare_row
  bare-row = rw (em, ew)
      (made-same (axes_of o.axes) (axes_of o.axes) row true (raw_motion p.points) false _ _ (λ k l. refl) (λ k l. own-cells o row m q k))

  pub bare-put : (xs ys : List ℕ) → Written p.rows (made_row (axes_of o.axes) row true motion false (shown m words)) xs ys → BarePut o p row xs ys
  bare-put xs ys is = is ∙ ap (spliced xs (p.rows * row_words)) bare-row
