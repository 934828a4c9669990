-- LAWS. A row's cells as they are lent, and the row that its words and its cells make. Assumes nothing.
use Rattle.std.specs.Prelude.{ℕ, ◌+◌, ◌-◌, ◌<◌, ◌≤◌, ◌≡◌, List, ◌++◌, length, get_or, take, drop}
use Rattle.std.proofs.Common.{sym, ◌∙◌, ap, arith, length-take, length-drop, get_or-take, get_or-drop}
use Rattle.floats.specs.Lists.{spliced}
use Rattle.floats.specs.Splice.{spliced-spliced}
use Rattle.layout.specs.Layout.{cells, cell_masks, row_words, r_cells}
use Rattle.row_cells.specs.Row.{raw_word}
use Rattle.row_cells.specs.Masks.{below-bits}
use Rattle.row_lay.specs.declared.Head.{Head}
use Rattle.row_lay.specs.Asks.{Lays, head_words}

-- a row's cells, as `&row[R_CELLS..]` lends them
abbrev pub cells_part : List ℕ → List ℕ
cells_part r = take (length r - r_cells) (drop r_cells r)

module _ (r : List ℕ) (long : length r ≡ row_words) where
  pub part_length : length (cells_part r) ≡ cells
  part_length = simp (length-take, length-drop) (omega arith)

  pub part-word : (k : ℕ) → k < cells → get_or (cells_part r) k 0 ≡ raw_word r k
  part-word k h = get_or-take (length r - r_cells) (drop r_cells r) k 0 (omega arith) ∙ get_or-drop r_cells r k 0

  pub row_lays : (l : List ℕ) (at mask : ℕ) → at + cells ≤ length l → mask < cell_masks → Lays l at mask (cells_part r)
  row_lays l at mask h m = record { room = h; small = m; there = λ k b. omega (arith, below-bits mask cells k m b, part_length) }

-- the words before the cells, then the cells
pub head-cells : (l m n : List ℕ) (i : ℕ) (h : Head) (cs : List ℕ) {row : List ℕ} → i + r_cells ≤ length l
    → m ≡ spliced l i (head_words h) → n ≡ spliced m (i + r_cells) cs → row ≡ head_words h ++ cs → n ≡ spliced l i row
head-cells l m n i h cs room p q r =
    q ∙ ap (λ (s : List ℕ). spliced s (i + r_cells) cs) p ∙ spliced-spliced l i (head_words h) cs room ∙ ap (spliced l i) (sym r)
