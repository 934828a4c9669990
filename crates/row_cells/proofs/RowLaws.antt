-- LAWS. The words and cells of a row, and of the row that goes out unchanged. Assumes nothing.
use Prim.Native.Nat.{ℕ, zero, suc, ◌+◌, ◌%◌, ◌<◌}
use Rattle.std.specs.Prelude.{◌≡◌, refl, Bool, List, [], ◌∷◌, ◌++◌, map, length, get_or}
use Rattle.std.proofs.Common.{◌∙◌, ap, mod-eq_of_lt}
use Rattle.std.proofs.Math.Path.{ap₂}
use Rattle.std.proofs.Math.Bool.{cond}
use Rattle.std.proofs.Math.Option
use Rattle.std.proofs.Math.Option.{Option, none, some}
use native.Mathlib.Omega.{arith}
use Rattle.std.proofs.lemmas.List.{length-map}
use Rattle.floats.specs.Lists.{upto, is_some}
use Rattle.floats.specs.Fill.{length-upto, at-upto}
use Rattle.floats.specs.Truth.{by_bit}
use Rattle.layout.specs.Layout.{cells, cell_masks, r_cells, row_words}
use Rattle.row_cells.specs.Bits.{has, mask_sum}
use Rattle.row_cells.specs.Row.{cell, shown, line_of, motion_of, plane_of, mark_of, carry_of, present_of, row_of, out_row, has_point}
use Rattle.row_cells.specs.Masks.{mask-upto, mask-same, mask-has, has-mask}

-- ---- a row of fields and cells
map_snoc : {A B : Type 0} (g : A → B) (xs : List A) (x : A) → map g (xs ++ (x ∷ [])) ≡ map g xs ++ (g x ∷ [])
map_snoc g [] x = refl
map_snoc g (y ∷ xs) x = ap (λ (l : List _). g y ∷ l) (map_snoc g xs x)

pub map-upto : {A B : Type 0} (g : A → B) (f : ℕ → A) (n : ℕ) → map g (upto f n) ≡ upto (λ (k : ℕ). g (f k)) n
unfolding upto
map-upto g f zero = refl
map-upto g f (suc n) = map_snoc g (upto f n) (f n) ∙ rw (map-upto g f n)

module _ (line motion plane mark carry : ℕ) (f : ℕ → Option ℕ) (n : ℕ) where
  pub row_words_lem : row_of line motion plane mark carry (upto f n)
      ≡ (line ∷ motion ∷ plane ∷ mark ∷ carry ∷ mask_sum (λ (k : ℕ). is_some (f k)) n ∷ []) ++ upto (λ (k : ℕ). Option.get_or (f k) 0) n
  unfolding row_of
  row_words_lem = rw (mask-upto f n, map-upto (λ (c : Option ℕ). Option.get_or c 0) f n)

  pub row-length : length (row_of line motion plane mark carry (upto f n)) ≡ r_cells + n
  unfolding row_of
  row-length = rw (length-map (upto f n) (λ (c : Option ℕ). Option.get_or c 0), length-upto f n) (omega arith)

  pub row-present : present_of (row_of line motion plane mark carry (upto f n)) ≡ mask_sum (λ (k : ℕ). is_some (f k)) n
  unfolding row_of
  row-present = mask-upto f n

  row_word : (k : ℕ) → k < n → get_or (row_of line motion plane mark carry (upto f n)) (r_cells + k) 0 ≡ Option.get_or (f k) 0
  unfolding row_of
  row_word k h =
      let i : r_cells + k ≡ suc (suc (suc (suc (suc (suc k))))) = omega arith in
      rw (i, map-upto (λ (c : Option ℕ). Option.get_or c 0) f n) (at-upto (λ (j : ℕ). Option.get_or (f j) 0) n k 0 h)

  again : (o : Option ℕ) → cond (is_some o) (some (Option.get_or o 0)) none ≡ o
  again none = refl
  again (some x) = refl

  -- its cells are those that it was made of
  pub row-cell : (k : ℕ) → k < n → cell (row_of line motion plane mark carry (upto f n)) k ≡ f k
  unfolding cell
  row-cell k h =
      ap₂ (λ (b : Bool) (w : ℕ). cond b (some w) none)
      (ap (λ (p : ℕ). has p k) row-present ∙ has-mask (λ (j : ℕ). is_some (f j)) n k h)
      (row_word k h)
      ∙ again (f k)

pub cell-there : (r : List ℕ) (k : ℕ) → is_some (cell r k) ≡ has (present_of r) k
unfolding cell
cell-there r k = by_bit (has (present_of r) k) (λ b. rw b) (λ b. rw b)

pub shown-there : (mask : ℕ) (ws : List ℕ) (k : ℕ) → is_some (shown mask ws k) ≡ has mask k
unfolding shown
shown-there mask ws k = by_bit (has mask k) (λ b. rw b) (λ b. rw b)

-- ---- a row that goes out unchanged
-- the word that goes out for cell k
abbrev pub cell_word : List ℕ → ℕ → ℕ
cell_word r k = Option.get_or (cell r k) 0

pub out-words : (r : List ℕ)
    → out_row r ≡ (line_of r ∷ motion_of r ∷ plane_of r ∷ 0 ∷ carry_of r ∷ present_of r % cell_masks ∷ []) ++ upto (cell_word r) cells
unfolding out_row
out-words r =
    row_words_lem (line_of r) (motion_of r) (plane_of r) 0 (carry_of r) (cell r) cells
    ∙ ap (λ (p : ℕ). (line_of r ∷ motion_of r ∷ plane_of r ∷ 0 ∷ carry_of r ∷ p ∷ []) ++ upto (cell_word r) cells)
    (mask-same _ _ cells (λ k h. cell-there r k) ∙ mask-has (present_of r) cells)

pub length-out : (r : List ℕ) → length (out_row r) ≡ row_words
unfolding out_row
length-out r = row-length (line_of r) (motion_of r) (plane_of r) 0 (carry_of r) (cell r) cells

pub out-cell : (r : List ℕ) (k : ℕ) → k < cells → cell (out_row r) k ≡ cell r k
unfolding out_row
out-cell r k h = row-cell (line_of r) (motion_of r) (plane_of r) 0 (carry_of r) (cell r) cells k h

pub out-present : (r : List ℕ) → present_of r < cell_masks → present_of (out_row r) ≡ present_of r
unfolding out_row
out-present r h =
    row-present (line_of r) (motion_of r) (plane_of r) 0 (carry_of r) (cell r) cells
    ∙ mask-same _ _ cells (λ k l. cell-there r k) ∙ mask-has (present_of r) cells ∙ mod-eq_of_lt h

pub out_line : (r : List ℕ) → line_of (out_row r) ≡ line_of r
unfolding out_row row_of
out_line r = refl

pub out-motion : (r : List ℕ) → motion_of (out_row r) ≡ motion_of r
unfolding out_row row_of
out-motion r = refl

pub out-plane : (r : List ℕ) → plane_of (out_row r) ≡ plane_of r
unfolding out_row row_of
out-plane r = refl

pub out-mark : (r : List ℕ) → mark_of (out_row r) ≡ 0
unfolding out_row row_of
out-mark r = refl

pub out-carry : (r : List ℕ) → carry_of (out_row r) ≡ carry_of r
unfolding out_row row_of
out-carry r = refl

pub out-point : (gs r : List ℕ) → present_of r < cell_masks → has_point gs (out_row r) ≡ has_point gs r
unfolding has_point
out-point gs r h = rw (out-present r h)
