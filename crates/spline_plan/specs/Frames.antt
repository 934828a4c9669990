-- LAWS. The frame of an emission: masks of axes and channels, places in a sample. Assumes nothing.
use Rattle.std.specs.Prelude.{ℕ, ◌≤◌, ◌<◌, ◌≡◌, refl, Bool, true, false, List, [], ltb, length, get_or, replicate}
use Rattle.std.proofs.Common.{sym, ◌∙◌, ⊎_elim, arith, lt-ltb, le-ltb}
use Rattle.floats.specs.Lists.{member}
use Rattle.floats.specs.Fill.{at-filled, length-filled, lt_or_le}
use Rattle.layout.specs.Layout.{axis_codes, axis_masks}
use Rattle.row_cells.specs.Codes.{geometric_of}
use Rattle.row_cells.specs.Bits.{has, mask_sum}
use Rattle.row_cells.specs.Masks.{has-mask, mask_lt, has-past, member-keep}
use Rattle.spline_channels.specs.Channels.{Spline, channels, place_of}
use Rattle.spline_places.specs.declared.frame.Frame.{Frame}
use Rattle.spline_places.specs.Groups.{is_bspline}
use Rattle.spline_sample.specs.Puts.{Sound}
use Rattle.spline_answer.specs.Runs.{runs_of}
use Rattle.spline_plan.specs.Words.{Lies, place-below}
use Rattle.spline_plan.specs.Plans.{places_of, frame_of}
use Rattle.spline_sample.specs.SampleLaws.{bit_below}

-- ---- masks and places
-- a mask has no bit past the axes
past-mask : (cs : List ℕ) (k : ℕ) → axis_codes ≤ k → has (mask_sum (λ (k : ℕ). member k cs) axis_codes) k ≡ false
past-mask cs k g = has-past (mask_sum (λ (k : ℕ). member k cs) axis_codes) axis_codes k (mask_lt (λ (k : ℕ). member k cs) axis_codes) g

mask-axes : (axes : List ℕ) (k : ℕ) → has (mask_sum (λ (k : ℕ). member k axes) axis_codes) k ≡ member k (geometric_of axes)
unfolding geometric_of
mask-axes axes k = ⊎_elim
    (λ (l : k < axis_codes). has-mask (λ (k : ℕ). member k axes) axis_codes k l
    ∙ sym (member-keep (λ (k : ℕ). ltb k axis_codes) k axes ∙ rw (lt-ltb k axis_codes (omega arith))))
    (λ (g : axis_codes ≤ k). past-mask axes k g
    ∙ sym (member-keep (λ (k : ℕ). ltb k axis_codes) k axes ∙ rw (le-ltb k axis_codes (omega arith))))
    (lt_or_le k axis_codes)

mask-codes : (cs : List ℕ) → ((k : ℕ) → member k cs ≡ true → k < axis_codes) → (k : ℕ) → has (mask_sum (λ (k : ℕ). member k cs) axis_codes) k ≡ member k cs
mask-codes cs h k = ⊎_elim
    (λ (l : k < axis_codes). has-mask (λ (k : ℕ). member k cs) axis_codes k l)
    (λ (g : axis_codes ≤ k). past-mask cs k g ∙ sym (no (member k cs) refl g))
    (lt_or_le k axis_codes)
  where
    no : (b : Bool) → member k cs ≡ b → axis_codes ≤ k → b ≡ false
    no false e g = refl
    no true e g = absurd (omega (arith, h k e))

module _ (s : Spline) (axes chans : List ℕ) (basis : Bool) (points : ℕ)
    (ea : s.axes ≡ geometric_of axes) (ec : chans ≡ channels s) (below : (k : ℕ) → member k (channels s) ≡ true → k < axis_codes) where
  laid : Frame
  laid = frame_of axes chans basis points

  mask-small : laid.mask < axis_masks
  unfolding laid
  mask-small = mask_lt (λ (k : ℕ). member k chans) axis_codes

  mask_is : (k : ℕ) → has laid.mask k ≡ member k (channels s)
  unfolding laid
  mask_is k = rw ec (mask-codes (channels s) below k)

  place_is : (k : ℕ) → has laid.mask k ≡ true → get_or (places_of chans) k 0 ≡ place_of k (channels s)
  unfolding laid
  place_is k e = rw ec (at-filled (λ (k : ℕ). place_of k (channels s)) (replicate axis_codes 0) axis_codes k 0 (bit_below laid.mask k mask-small e))

  pub laid-sound : length (channels s) ≤ axis_codes → Sound (frame_of axes chans basis points) (places_of chans)
  unfolding laid
  laid-sound few = record {
    axes = mask_lt (λ (k : ℕ). member k axes) axis_codes;
    mask = mask-small;
    wide = rw (length-filled (λ (k : ℕ). place_of k chans) (replicate axis_codes 0) axis_codes (omega arith)) (omega arith);
    inside = λ k e. rw (place_is k e, ec) (place-below k (channels s) (sym (mask_is k) ∙ e));
    narrow = rw ec few;
  }

  pub laid_lies : (counts : List ℕ) → basis ≡ is_bspline s → points ≡ length (runs_of s)
      → ((j : ℕ) → j < length (runs_of s) → get_or counts j 0 ≡ length (get_or (runs_of s) j []))
      → Lies s (runs_of s) (frame_of axes chans basis points) (places_of chans) counts
  unfolding laid
  laid_lies counts eb ep ej = record {
    small = mask_lt (λ (k : ℕ). member k axes) axis_codes;
    axes = λ k. rw ea (mask-axes axes k);
    mask = mask_is;
    placed = place_is;
    basis = eb;
    points = ep;
    counted = ej;
  }
