-- CONTRACTS. What laying a row's words asks of its slices, and the words that it lays. Assumes nothing.
use Rattle.std.specs.Prelude.{ℕ, ◌+◌, ◌<◌, ◌≤◌, ◌≡◌, true, List, [], ◌∷◌, length}
use Rattle.floats.specs.Lists.{upto, spliced}
use Rattle.layout.specs.Layout.{cells, cell_masks}
use Rattle.row_cells.specs.Bits.{has}
use Rattle.row_lay.specs.declared.Head.{Head}
use Rattle.row_lay.specs.Over.{over_word}

-- room for the cells, and a word for each of the mask
pub record Lays (rows : List ℕ) (at mask : ℕ) (words : List ℕ) : Type 0 where
  pub room : at + cells ≤ length rows
  pub small : mask < cell_masks
  pub there : (k : ℕ) → has mask k ≡ true → k < length words

-- the words of the mask lie over what the cells were
pub record Laid (rows : List ℕ) (at mask : ℕ) (words now : List ℕ) : Type 0 where
  pub same : length now ≡ length rows
  pub is : (l : List ℕ) (f : ℕ → ℕ) → at + cells ≤ length l → rows ≡ spliced l at (upto f cells)
      → now ≡ spliced l at (upto (over_word mask words f) cells)

abbrev pub head_words : Head → List ℕ
head_words h = h.line ∷ h.motion ∷ h.plane ∷ h.mark ∷ h.carry ∷ h.present ∷ []
