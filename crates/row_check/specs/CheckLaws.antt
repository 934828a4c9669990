-- LAWS. What a row that passes its checks has, and the check of the row that goes out. Assumes nothing.
use Rattle.std.specs.Prelude.{ℕ, ◌<◌, ◌≤◌, Bool, ◌&&◌, ◌||◌, not, List, length, leb, ltb, eqb}
use Rattle.std.proofs.Math.Path.{◌≡◌, sym}
use Rattle.std.proofs.Common.{◌∙◌, ap, ap₂, arith, eqb-true, leb-true, ltb-true}
use Rattle.std.proofs.Math.Bool.{true, cond}
use Rattle.std.proofs.Math.Option.{Option, none, some}
use Rattle.floats.specs.Truth.{by_bit, cond-t, cond-f, and_left, and_right, true_of_not_false, all_ext, all-at}
use Rattle.layout.specs.Layout.{cells, cell_masks, line_numbers, row_words, c_turn}
use Rattle.motion.specs.Motion.{last_motion}
use Rattle.row_cells.specs.Bits.{has}
use Rattle.row_cells.specs.Codes.{plane_ok}
use Rattle.row_cells.specs.Row.{cell, line_of, motion_of, plane_of, mark_of, present_of, raw_word, out_row}
use Rattle.row_cells.proofs.RowLaws.{length-out, out-cell, out-present, out_line, out-motion, out-plane, out-mark}
use Rattle.row_numbers.specs.RowNumbers.{within, cell_ok, numbers_ok, above1000, turn_ok}
use Rattle.row_check.specs.Check.{shape_ok, fields_ok, row_check}

pub shape-length : (r : List ℕ) → shape_ok r ≡ true → length r ≡ row_words
unfolding shape_ok
shape-length r p = eqb-true _ _ (and_left _ _ p)

-- what is left of the shape's tests after the length, the line, the plane
abbrev from_mark : List ℕ → Bool
from_mark r = eqb (mark_of r) 0 && ltb (present_of r) cell_masks

abbrev from_motion : List ℕ → Bool
from_motion r = leb (motion_of r) last_motion && fields_ok r

abbrev from_line : List ℕ → Bool
from_line r = ltb (line_of r) line_numbers && from_motion r

module _ (r : List ℕ) (p : shape_ok r ≡ true) where
  of_line : from_line r ≡ true
  unfolding shape_ok
  of_line = and_right (eqb (length r) row_words) (from_line r) p

  of_motion : from_motion r ≡ true
  of_motion = and_right (ltb (line_of r) line_numbers) (from_motion r) of_line

  of_plane : fields_ok r ≡ true
  of_plane = and_right (leb (motion_of r) last_motion) (fields_ok r) of_motion

  of_mark : from_mark r ≡ true
  of_mark = and_right (plane_ok (plane_of r)) (from_mark r) of_plane

  pub shape-motion : motion_of r ≤ last_motion
  shape-motion = leb-true _ _ (and_left (leb (motion_of r) last_motion) (fields_ok r) of_motion)

  pub shape-plane : plane_ok (plane_of r) ≡ true
  shape-plane = and_left (plane_ok (plane_of r)) (from_mark r) of_plane

  pub shape-mark : mark_of r ≡ 0
  shape-mark = eqb-true _ _ (and_left (eqb (mark_of r) 0) (ltb (present_of r) cell_masks) of_mark)

  pub shape-present : present_of r < cell_masks
  shape-present = ltb-true _ _ (and_right (eqb (mark_of r) 0) (ltb (present_of r) cell_masks) of_mark)

module _ (r : List ℕ) (p : row_check r ≡ 0) where
  pub check-shape : shape_ok r ≡ true
  unfolding row_check
  check-shape =
      true_of_not_false (shape_ok r) (λ q. let z : ◌≡◌ {A = ℕ} 4 0 = sym (cond-f _ _ q) ∙ p in omega arith)

  pub check-numbers : numbers_ok r ≡ true
  unfolding row_check
  check-numbers =
      true_of_not_false (numbers_ok r) (λ q. let z : ◌≡◌ {A = ℕ} 3 0 = sym (cond-t _ _ check-shape ∙ cond-f _ _ q) ∙ p in omega arith)

  pub check-length : length r ≡ row_words
  check-length = shape-length r check-shape

  pub check-motion : motion_of r ≤ last_motion
  check-motion = shape-motion r check-shape

  pub check-plane : plane_ok (plane_of r) ≡ true
  check-plane = shape-plane r check-shape

  -- a present number is in range
  pub check-within : (k : ℕ) → k < cells → has (present_of r) k ≡ true → within (raw_word r k) ≡ true
  unfolding numbers_ok cell_ok
  check-within k h b =
      let q : (not (has (present_of r) k) || within (raw_word r k)) ≡ true = all-at cells (cell_ok r) k check-numbers h in
      rw b at q

  -- no cell is past the last
  pub check-cell-within : (k x : ℕ) → k < cells → cell r k ≡ some x → within x ≡ true
  unfolding cell
  check-cell-within k x h e =
      by_bit (has (present_of r) k)
      (λ b. let q : cond (has (present_of r) k) (some (raw_word r k)) none ≡ some x = e in
      let z : raw_word r k ≡ x = (let y : some (raw_word r k) ≡ some x = rw b at q in cc) in
      rw (← z) (check-within k h b))
      (λ b. let q : cond (has (present_of r) k) (some (raw_word r k)) none ≡ some x = e in
      let y : none ≡ some x = rw b at q in cc)

abbrev asked : (ℕ → Bool) → Option ℕ → Bool
asked f none = true
asked f (some x) = f x

-- what is asked of a cell only where it is there, is asked of the same number
abbrev asked_at : List ℕ → ℕ → (ℕ → Bool) → Bool
asked_at r k f = not (has (present_of r) k) || f (raw_word r k)

cell-asked : (r : List ℕ) (k : ℕ) (f : ℕ → Bool) → asked_at r k f ≡ asked f (cell r k)
unfolding cell
cell-asked r k f = by_bit (has (present_of r) k) (λ b. rw b) (λ b. rw b)

-- the row that goes out is refused where the one that came is, and for the same
pub out-check : (r : List ℕ) → shape_ok r ≡ true → row_check (out_row r) ≡ row_check r
unfolding row_check numbers_ok turn_ok cell_ok shape_ok
out-check r p =
    let same : (k : ℕ) (f : ℕ → Bool) → k < cells → asked_at (out_row r) k f ≡ asked_at r k f =
    λ k f h. cell-asked (out_row r) k f ∙ ap (asked f) (out-cell r k h) ∙ sym (cell-asked r k f) in
    ap₂ (λ (a : Bool) (n : ℕ). cond a n 4) (shape ∙ sym p)
    (ap₂ (λ (a : Bool) (n : ℕ). cond a n 3)
    (all_ext cells (cell_ok (out_row r)) (cell_ok r) (λ k l. same k within l))
    (ap (λ (a : Bool). cond a 0 5) (same c_turn (λ (x : ℕ). not (above1000 x)) (omega arith))))
  where
    shape : shape_ok (out_row r) ≡ true
    shape =
        rw (out_line r, out-motion r, out-plane r, out-mark r, out-present r (shape-present r p), length-out r)
        (let q : shape_ok r ≡ true = p in rw (shape-length r p, shape-mark r p) at q)
