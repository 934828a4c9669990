-- LAWS. The words before the cells and the cells of a row that goes out unchanged are its words. Assumes nothing.
use Prim.Native.Nat.{ℕ, ◌+◌, ◌%◌, ◌≤◌}
use mathlib.Core.Path.{◌≡◌, sym, ◌∙◌, ap}
use mathlib.Core.List.{List, ◌++◌}
use lib.ListN.{length}
use Rattle.floats.specs.Lists.{upto, spliced}
use Rattle.floats.specs.Fill.{upto-below}
use Rattle.floats.specs.Truth.{by_bit}
use Rattle.layout.specs.Layout.{cells, cell_masks, row_words, r_cells}
use Rattle.row_cells.specs.Bits.{has}
use Rattle.row_cells.specs.Row.{cell, present_of, out_row}
use Rattle.row_cells.specs.Masks.{has_mod}
use Rattle.row_cells.proofs.RowLaws.{cell_word, out-words}
use Rattle.row_lay.specs.declared.Head.{Head}
use Rattle.row_lay.specs.Over.{over_word, zeros}
use Rattle.row_lay.specs.Asks.{head_words}
use Rattle.row_lay.specs.LayLaws.{cells_part, part-word, head-cells}
use Rattle.row_put.specs.Asks.{out_head}

out-cells : (r : List ℕ) → length r ≡ row_words → upto (over_word (present_of r % cell_masks) (cells_part r) zeros) cells ≡ upto (cell_word r) cells
unfolding cell
out-cells r long = upto-below _ _ cells (λ k h.
    rw (has_mod (present_of r) cells k h, part-word r long k h) (by_bit (has (present_of r) k) (λ b. rw b) (λ b. rw b)))

pub out_written : (l m n : List ℕ) (i : ℕ) (h : Head) (r : List ℕ) → length r ≡ row_words → i + r_cells ≤ length l
    → head_words h ≡ out_head r → m ≡ spliced l i (head_words h)
    → n ≡ spliced m (i + r_cells) (upto (over_word (present_of r % cell_masks) (cells_part r) zeros) cells) → n ≡ spliced l i (out_row r)
out_written l m n i h r long room e p q =
    head-cells l m n i h (upto (cell_word r) cells) room p (q ∙ ap (spliced m (i + r_cells)) (out-cells r long))
    (out-words r ∙ sym (ap (λ (hs : List ℕ). hs ++ upto (cell_word r) cells) e))
