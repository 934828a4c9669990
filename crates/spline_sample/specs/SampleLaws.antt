-- LAWS. A sample stands before the row that it goes to, and both within the rows. Assumes nothing.
use Rattle.std.specs.Prelude.{ℕ, ◌+◌, ◌*◌, ◌≤◌, ◌<◌, ◌≡◌, true, List, length}
use Rattle.std.proofs.Common.{sym, ◌∙◌, true≢false, ⊎_elim, mul-le-mul, arith}
use Rattle.floats.specs.Fill.{lt_or_le}
use Rattle.layout.specs.Layout.{axis_codes, axis_masks, row_words}
use Rattle.row_cells.specs.Bits.{has}
use Rattle.spline_places.specs.declared.frame.Frame.{Frame}
use Rattle.spline_places.specs.declared.place.Place.{Place}
use Rattle.spline_places.specs.SizeLaws.{size_most}
use Rattle.spline_sample.specs.Puts.{Sample, Puts}
use Rattle.row_cells.specs.Masks.{has-past}

-- ---- a sample stands before the row that it goes to: it has no more words than a row
pub raw_before : (s w ch : ℕ) → s ≤ w → ch ≤ axis_codes → s * ch + ch ≤ w * row_words + row_words
raw_before s w ch h l =
    let m : (s + 1) * ch ≤ (w + 1) * row_words = mul-le-mul {n₁ = s + 1} {m₁ = ch} {n₂ = w + 1} {m₂ = row_words} (omega arith) (omega arith) in
    omega arith

module _ {o : Frame} {places : List ℕ} {p : Place} {c : ℕ} {row xs : List ℕ} (h : Puts o places p c row xs) (t : ℕ) (l : t < c) where
  pub sample_rows : (p.rows + t) * row_words + row_words ≤ length xs
  sample_rows = omega (arith, h.room, (size_most c).0)

  pub sample_words : (p.samples + t) * o.ch + o.ch ≤ length xs
  sample_words = omega (arith, sample_rows, raw_before (p.samples + t) (p.rows + t) o.ch (omega (arith, h.behind)) h.sound.narrow)

  pub sample_at : Sample xs ((p.samples + t) * o.ch) o.mask places
  sample_at = record { wide = h.sound.wide; inside = λ k e. omega (arith, h.sound.inside k e, sample_words) }

-- a mask of axes has no bit past them
pub bit_below : (m k : ℕ) → m < axis_masks → has m k ≡ true → k < axis_codes
bit_below m k h e =
    ⊎_elim (λ (l : k < axis_codes). l) (λ (g : axis_codes ≤ k). absurd (true≢false (sym e ∙ has-past m axis_codes k h g))) (lt_or_le k axis_codes)
