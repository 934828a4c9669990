-- LAWS. The words and cells of a made row. Assumes nothing.
use Rattle.std.specs.Prelude.{ℕ, ◌<◌, ◌≡◌, refl, Bool, true, false, cond, List, [], ◌∷◌, ◌++◌, length}
use Rattle.std.proofs.Common.{◌∙◌, ap}
use Rattle.std.proofs.Math.Option.{Option}
use Rattle.floats.specs.Lists.{upto, is_some, member}
use Rattle.floats.specs.Fill.{upto-below}
use Rattle.floats.specs.Truth.{by_bit}
use Rattle.layout.specs.Layout.{cells, row_words}
use Rattle.row_cells.specs.Bits.{mask_sum}
use Rattle.row_cells.specs.Row.{cell, shown, line_of, plane_of, carry_of, row_of}
use Rattle.row_cells.specs.Masks.{mask-same}
use Rattle.row_cells.proofs.RowLaws.{row_words_lem, row-length, row-cell, cell-there, shown-there}
use Rattle.row_made.specs.Made.{rides, with_riders, made_row, made_cell, made_has, made_word}

pub made-is : (gs r : List ℕ) (first : Bool) (motion : ℕ) (marked : Bool) (f : ℕ → Option ℕ)
    → made_row gs r first motion marked f
    ≡ row_of (line_of r) (cond first motion 0) (cond first (plane_of r) 0) (cond marked 1 0) (cond first (carry_of r) 0) (upto (made_cell gs r first f) cells)
unfolding made_row made_cell
made-is gs r true motion marked f = refl
made-is gs r false motion marked f = refl

pub length-made : (gs r : List ℕ) (first : Bool) (motion : ℕ) (marked : Bool) (f : ℕ → Option ℕ) → length (made_row gs r first motion marked f) ≡ row_words
length-made gs r first motion marked f = ap length (made-is gs r first motion marked f) ∙ row-length _ _ _ _ _ (made_cell gs r first f) cells

pub made-cell : (gs r : List ℕ) (first : Bool) (motion : ℕ) (marked : Bool) (f : ℕ → Option ℕ) (k : ℕ) → k < cells
    → cell (made_row gs r first motion marked f) k ≡ made_cell gs r first f k
made-cell gs r first motion marked f k h =
    ap (λ (l : List ℕ). cell l k) (made-is gs r first motion marked f) ∙ row-cell _ _ _ _ _ (made_cell gs r first f) cells k h

-- the axes count only by which codes they have, the cells only below `cells`
pub made-same : (gs gs' r : List ℕ) (first : Bool) (motion : ℕ) (marked : Bool) (f f' : ℕ → Option ℕ)
    → ((k : ℕ) → k < cells → member k gs ≡ member k gs') → ((k : ℕ) → k < cells → f k ≡ f' k)
    → made_row gs r first motion marked f ≡ made_row gs' r first motion marked f'
unfolding made_row with_riders rides
made-same gs gs' r true motion marked f f' e d =
    ap (row_of (line_of r) motion (plane_of r) (cond marked 1 0) (carry_of r)) (upto-below _ _ cells (λ k h. rw (e k h, d k h)))
made-same gs gs' r false motion marked f f' e d = ap (row_of (line_of r) 0 0 (cond marked 1 0) 0) (upto-below _ _ cells d)

pub made-has : (gs r : List ℕ) (first : Bool) (mask : ℕ) (ws : List ℕ) (k : ℕ) → is_some (made_cell gs r first (shown mask ws) k) ≡ made_has gs r first mask k
unfolding made_cell made_has with_riders
made-has gs r true mask ws k = by_bit (rides gs k) (λ b. rw b (cell-there r k)) (λ b. rw b (shown-there mask ws k))
made-has gs r false mask ws k = shown-there mask ws k

pub made-words : (gs r : List ℕ) (first : Bool) (motion : ℕ) (marked : Bool) (mask : ℕ) (ws : List ℕ)
    → made_row gs r first motion marked (shown mask ws)
    ≡ (line_of r ∷ cond first motion 0 ∷ cond first (plane_of r) 0 ∷ cond marked 1 0 ∷ cond first (carry_of r) 0 ∷ mask_sum (made_has gs r first mask) cells
    ∷ [])
    ++ upto (made_word gs r first (shown mask ws)) cells
made-words gs r first motion marked mask ws =
    made-is gs r first motion marked (shown mask ws)
    ∙ row_words_lem _ _ _ _ _ (made_cell gs r first (shown mask ws)) cells
    ∙ rw (mask-same _ (made_has gs r first mask) cells (λ k h. made-has gs r first mask ws k))
