-- CONTRACTS. What making a row asks of its slices, and the words that it writes. Assumes nothing.
use Rattle.std.specs.Prelude.{ℕ, ◌<◌, ◌≤◌, ◌≡◌, true, cond, List, [], ◌∷◌, length}
use Rattle.floats.specs.Lists.{upto}
use Rattle.layout.specs.Layout.{axis_codes, axis_masks, cells, row_words}
use Rattle.row_cells.specs.Bits.{mask_sum}
use Rattle.row_cells.specs.Row.{line_of, plane_of, carry_of, shown, axes_of}
use Rattle.row_made.specs.declared.Made.{Made}
use Rattle.row_made.specs.Made.{made_row, made_has, made_word}

-- a block's row, the masks of the geometric axes and of the point, the point's words
pub record MadeOf (row : List ℕ) (made : Made) (words : List ℕ) : Type 0 where
  pub long : length row ≡ row_words
  pub axes : made.axes < axis_masks
  pub point : made.mask < axis_masks
  pub wide : axis_codes ≤ length words

-- the row that is made of a block's row and a point's words: before its cells, its cells, and whole
abbrev pub made_head : List ℕ → Made → List ℕ
made_head r m =
    line_of r
    ∷ cond m.first m.motion 0
    ∷ cond m.first (plane_of r) 0
    ∷ cond m.marked 1 0
    ∷ cond m.first (carry_of r) 0
    ∷ mask_sum (made_has (axes_of m.axes) r m.first m.mask) cells
    ∷ []

abbrev pub first_cells : List ℕ → Made → List ℕ → List ℕ
first_cells r m ws = upto (made_word (axes_of m.axes) r true (shown m.mask ws)) cells

abbrev pub made_cells : List ℕ → Made → List ℕ → List ℕ
made_cells r m ws = upto (made_word (axes_of m.axes) r m.first (shown m.mask ws)) cells

abbrev pub made_by : List ℕ → Made → List ℕ → List ℕ
made_by r m ws = made_row (axes_of m.axes) r m.first m.motion m.marked (shown m.mask ws)
