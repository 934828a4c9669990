-- CONTRACTS. What writing the rows of held blocks asks of its slices and leaves in them. Assumes nothing.
use Rattle.std.specs.Prelude.{ℕ, ◌*◌, ◌≤◌, ◌<◌, ◌≡◌, Bool, List, length, get_or}
use Rattle.floats.specs.Lists.{upto, flatten, spliced}
use Rattle.layout.specs.Layout.{row_words, most_held}
use Rattle.row_cells.specs.Codes.{geometric_of}
use Rattle.row_cells.specs.Row.{has_point}
use Rattle.spline_channels.specs.Channels.{block_at}
use Rattle.spline_places.specs.declared.frame.Frame.{Frame}
use Rattle.spline_places.specs.declared.place.Place.{Place}
use Rattle.spline_places.specs.Sizes.{place_to}
use Rattle.spline_places.specs.Places.{Behind}
use Rattle.spline_sample.specs.Raw.{samples_at, raw_row}
use Rattle.spline_rows.specs.RawBlocks.{raw_group, raw_block, held_words}
use Rattle.spline_sample.specs.Puts.{Sound, Written}

abbrev pub RunPut : Frame → List ℕ → Place → ℕ → List ℕ → List ℕ → List ℕ → Type 0
RunPut o places p c row xs ys = Written p.rows (flatten (upto (raw_row o places p.points c row (samples_at o xs p)) c)) xs ys

abbrev pub GroupPut : Frame → List ℕ → Place → ℕ → List ℕ → List ℕ → List ℕ → Type 0
GroupPut o places p c row xs ys = Written p.rows (flatten (raw_group o places p.points c row (samples_at o xs p))) xs ys

abbrev pub BlockPut : Frame → List ℕ → Bool → Place → ℕ → List ℕ → List ℕ → List ℕ → Type 0
BlockPut o places point p c row xs ys = Written p.rows (flatten (raw_block o places point p.points c row (samples_at o xs p))) xs ys

-- ---- the held block before a place
pub record Blocks (o : Frame) (gs places counts row : List ℕ) (place : Place) (xs : List ℕ) : Type 0 where
  pub sound : Sound o places
  pub long : length row ≡ row_words
  pub before : Behind (has_point gs row) counts place
  pub few : before.before.points < most_held
  pub order : before.before.samples ≤ before.before.rows
  pub room : place.rows * row_words ≤ length xs

abbrev pub HeldPut : Frame → List ℕ → List ℕ → List ℕ → List ℕ → Place → List ℕ → List ℕ → Type 0
HeldPut o axes places counts row p xs ys = BlockPut o places (has_point (geometric_of axes) row) p (get_or counts p.points 0) row xs ys

-- ---- all held blocks
pub record Spreads (o : Frame) (gs places counts : List ℕ) (f : ℕ → List ℕ) (held : ℕ) (total : Place) (xs : List ℕ) : Type 0 where
  pub sound : Sound o places
  pub known : held ≤ length counts
  pub many : held ≤ most_held
  pub place : total ≡ place_to gs counts f held
  pub room : total.rows * row_words ≤ length xs

abbrev pub Laid : Frame → List ℕ → List ℕ → List ℕ → List ℕ → ℕ → List ℕ → List ℕ → Type 0
Laid o axes places counts store held xs ys =
    ys ≡ spliced xs 0 (flatten (upto (held_words o (geometric_of axes) places counts (block_at store) xs) held))
