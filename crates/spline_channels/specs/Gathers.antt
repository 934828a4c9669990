-- CONTRACTS. What gathering channels asks of its slices and leaves in them. Assumes nothing.
use Rattle.std.specs.Prelude.{ℕ, ◌+◌, ◌<◌, ◌≡◌, Bool, not, ◌&&◌, List, [], ◌++◌, ltb, length, get_or, take}
use Rattle.floats.specs.Lists.{upto, member}
use Rattle.layout.specs.Layout.{axis_codes}
use Rattle.row_cells.specs.Codes.{geometric_of}
use Rattle.row_cells.specs.Bits.{has}
use Rattle.spline_channels.specs.Channels.{channels_from, block_at}

-- of ys, which was xs, the first m are the first n of xs and then `new`
pub record Appended {A : Type 0} (new : List A) (n : ℕ) (xs ys : List A) (m : ℕ) : Type 0 where
  pub same : length ys ≡ length xs
  pub count : m ≡ n + length new
  pub is : take m ys ≡ take n xs ++ new

-- no code stands at two places of the list
pub record Once (axes : List ℕ) : Type 0 where
  pub once : (i j : ℕ) → i < j → j < length axes → get_or axes i 0 ≡ get_or axes j 0 → ⊥

-- every code is an axis'
pub record Codes (cs : List ℕ) : Type 0 where
  pub axis : (c : ℕ) → c < length cs → get_or cs c 0 < axis_codes

-- ---- channels: code k is a geometric axis, programmed, and none of cs
unfoldable pub is_new : ℕ → List ℕ → ℕ → Bool
is_new present cs k = ltb k axis_codes && (has present k && not (member k cs))

abbrev pub ChannelsPut : List ℕ → List ℕ → ℕ → List ℕ → List ℕ → ℕ → Type 0
ChannelsPut axes store held xs ys n = Appended (channels_from (geometric_of axes) [] (upto (block_at store) held)) 0 xs ys n
