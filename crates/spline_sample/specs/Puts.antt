-- CONTRACTS. What writing one row of a held block asks of its slices and leaves in them. Assumes nothing.
use Rattle.std.specs.Prelude.{ℕ, ◌+◌, ◌*◌, ◌≤◌, ◌<◌, ◌≡◌, true, not, ◌&&◌, List, length, get_or}
use Rattle.floats.specs.Lists.{spliced}
use Rattle.layout.specs.Layout.{axis_codes, axis_masks, row_words, most_held}
use Rattle.row_cells.specs.Bits.{has}
use Rattle.row_cells.specs.Row.{present_of}
use Rattle.spline_places.specs.declared.frame.Frame.{Frame}
use Rattle.spline_places.specs.declared.place.Place.{Place}
use Rattle.spline_places.specs.Sizes.{size_of}
use Rattle.spline_sample.specs.Raw.{samples_at, raw_row, bare_row}

-- masks and places that fit each other
pub record Sound (o : Frame) (places : List ℕ) : Type 0 where
  pub axes : o.axes < axis_masks
  pub mask : o.mask < axis_masks
  pub wide : axis_codes ≤ length places
  pub inside : (k : ℕ) → has o.mask k ≡ true → get_or places k 0 < o.ch
  pub narrow : o.ch ≤ axis_codes

-- a sample at word `from`
pub record Sample (xs : List ℕ) (from mask : ℕ) (places : List ℕ) : Type 0 where
  pub wide : axis_codes ≤ length places
  pub inside : (k : ℕ) → has mask k ≡ true → from + get_or places k 0 < length xs

-- the cells that a block without samples keeps
pub record OwnMask (o : Frame) (row : List ℕ) (m : ℕ) : Type 0 where
  pub small : m < axis_masks
  pub is : (k : ℕ) → has m k ≡ ((has o.axes k && has (present_of row) k) && not o.basis)

-- ---- a block with c samples, its rows and samples from p on
pub record Puts (o : Frame) (places : List ℕ) (p : Place) (c : ℕ) (row xs : List ℕ) : Type 0 where
  pub sound : Sound o places
  pub long : length row ≡ row_words
  pub few : p.points < most_held
  pub behind : p.samples ≤ p.rows
  pub room : (p.rows + size_of c) * row_words ≤ length xs

-- ys is xs with words written from row n on
abbrev pub Written : ℕ → List ℕ → List ℕ → List ℕ → Type 0
Written n words xs ys = ys ≡ spliced xs (n * row_words) words

abbrev pub RowPut : Frame → List ℕ → Place → ℕ → List ℕ → ℕ → List ℕ → List ℕ → Type 0
RowPut o places p c row t xs ys = Written (p.rows + t) (raw_row o places p.points c row (samples_at o xs p) t) xs ys

abbrev pub BarePut : Frame → Place → List ℕ → List ℕ → List ℕ → Type 0
BarePut o p row xs ys = Written p.rows (bare_row o p.points row) xs ys
