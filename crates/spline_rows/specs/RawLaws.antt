-- LAWS. How long the rows and the group of a held block are. Assumes nothing.
use Rattle.std.specs.Prelude.{ℕ, zero, suc, ◌*◌, ◌≡◌, refl, Bool, true, false, cond, List, [], ◌∷◌, eqb, length, get_or}
use Rattle.std.proofs.Common.{◌∙◌, ap, append-nil}
use Rattle.floats.specs.Lists.{upto, flatten}
use Rattle.floats.specs.Fill.{length-upto}
use Rattle.layout.specs.Layout.{row_words}
use Rattle.row_cells.specs.Row.{axes_of, out_row}
use Rattle.row_made.specs.MadeLaws.{length-made}
use Rattle.row_cells.proofs.RowLaws.{length-out}
use Rattle.spline_channels.specs.Flat.{Sized, sized_append, length-flatten}
use Rattle.spline_places.specs.declared.frame.Frame.{Frame}
use Rattle.spline_places.specs.Sizes.{size_of, samples_of}
use Rattle.spline_marks.specs.Marks.{raw_mark, raw_motion}
use Rattle.spline_sample.specs.Raw.{raw_cell, raw_own, raw_row, bare_row}
use Rattle.spline_rows.specs.RawBlocks.{raw_group, raw_block}

pub raw_length : (o : Frame) (places : List ℕ) (j c : ℕ) (row : List ℕ) (raw : ℕ → List ℕ) (t : ℕ) → length (raw_row o places j c row raw t) ≡ row_words
unfolding raw_row
raw_length o places j c row raw t = length-made (axes_of o.axes) row (eqb t 0) (raw_motion j) (raw_mark o j c t) (raw_cell o.mask places (raw t))

bare-length : (o : Frame) (j : ℕ) (row : List ℕ) → length (bare_row o j row) ≡ row_words
unfolding bare_row
bare-length o j row = length-made (axes_of o.axes) row true (raw_motion j) false (raw_own o row)

sized-upto : (f : ℕ → List ℕ) (n : ℕ) → ((t : ℕ) → length (f t) ≡ n) → (c : ℕ) → Sized n (upto f c)
unfolding upto Sized
sized-upto f n h zero = tt
sized-upto f n h (suc c) = sized_append n (upto f c) (f c ∷ []) (sized-upto f n h c) (h c, tt)

one-long : (r : List ℕ) (n : ℕ) → length r ≡ n → length (flatten (r ∷ [])) ≡ n
unfolding flatten
one-long r n e = ap length (append-nil r) ∙ e

group_long : (o : Frame) (places : List ℕ) (j c : ℕ) (r : List ℕ) (raw : ℕ → List ℕ) (b : Bool) → eqb c 0 ≡ b
    → length (flatten (cond b (bare_row o j r ∷ []) (upto (raw_row o places j c r raw) c))) ≡ cond b 1 c * row_words
group_long o places j c r raw true e = one-long (bare_row o j r) row_words (bare-length o j r)
group_long o places j c r raw false e =
    let f : ℕ → List ℕ = raw_row o places j c r raw in
    length-flatten row_words (upto f c) (sized-upto f row_words (raw_length o places j c r raw) c) ∙ ap (λ (k : ℕ). k * row_words) (length-upto f c)

pub block-long : (o : Frame) (places : List ℕ) (point : Bool) (counts : List ℕ) (j : ℕ) (r : List ℕ) (raw : ℕ → List ℕ)
    → length (flatten (raw_block o places point j (get_or counts j 0) r raw)) ≡ size_of (samples_of point counts j) * row_words
unfolding raw_block raw_group size_of samples_of
block-long o places false counts j r raw = one-long (out_row r) row_words (length-out r)
block-long o places true counts j r raw = group_long o places j (get_or counts j 0) r raw (eqb (get_or counts j 0) 0) refl
