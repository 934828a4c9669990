-- LAWS. The cells of a mask in range, with X, Y and Z apart from the others. Assumes nothing.
use Prim.Native.Nat.{ℕ, zero, suc, ◌+◌, ◌-◌, ◌*◌, ◌/◌, ◌%◌, ◌<◌}
use mathlib.Core.Path.{◌≡◌, sym, ap, ◌∙◌}
use mathlib.Core.Bool.{true, false, ◌&&◌, not}
use mathlib.Core.List.{List}
use native.Mathlib.Omega.{arith}
use Rattle.floats.specs.Truth.{or_t, or_f, by_bit, all_ext, all-fails}
use Rattle.layout.specs.Layout.{cells, cell_masks}
use Rattle.row_cells.specs.Bits.{has}
use Rattle.row_cells.specs.Row.{present_of, raw_word}
use Rattle.row_cells.specs.Masks.{has-half, has_0, not_0, has_mod}
use Rattle.row_numbers.specs.RowNumbers.{within, cell_ok, numbers_ok}
use Rattle.row_numbers.specs.MaskCheck.{mask_cell_ok, mask_ok}

-- the mask of the cells X, Y and Z; masks of them are below the second
abbrev xyz : ℕ
xyz = 7

abbrev xyz_masks : ℕ
xyz_masks = 8

pub absent-ok : (r : List ℕ) (mask k : ℕ) → has mask k ≡ false → mask_cell_ok r mask k ≡ true
unfolding mask_cell_ok
absent-ok r mask k h = or_t _ (ap not h)

pub there-ok : (r : List ℕ) (mask k : ℕ) → has mask k ≡ true → mask_cell_ok r mask k ≡ within (raw_word r k)
unfolding mask_cell_ok
there-ok r mask k h = or_f _ (ap not h)

-- the mask of the cells that are there
pub numbers-mask : (r : List ℕ) → numbers_ok r ≡ mask_ok r (present_of r % cell_masks)
unfolding numbers_ok cell_ok mask_ok mask_cell_ok
numbers-mask r = all_ext cells (cell_ok r) (mask_cell_ok r (present_of r % cell_masks)) (λ k h. rw (has_mod (present_of r) cells k h))

-- ---- a mask with the first three cells
module _ (p : ℕ) (e : p % xyz_masks ≡ xyz) where
  has_first : (k : ℕ) → k < 3 → has p k ≡ true
  has_first zero h = has_0 p (omega arith)
  has_first (suc zero) h = has-half p 0 ∙ has_0 (p / 2) (omega arith)
  has_first (suc (suc zero)) h = has-half p 1 ∙ has-half (p / 2) 0 ∙ has_0 (p / 2 / 2) (omega arith)
  has_first (suc (suc (suc k))) h = absurd (omega arith)

  left-half : (p - xyz) / 2 ≡ 4 * (p / xyz_masks)
  left-half =
      let s : p - xyz ≡ xyz_masks * (p / xyz_masks) = omega (arith, e) in
      omega (arith, s)

  left_quarter : (p - xyz) / 2 / 2 ≡ 2 * (p / xyz_masks)
  left_quarter = omega (arith, left-half)

  first-gone : (k : ℕ) → k < 3 → has (p - xyz) k ≡ false
  first-gone zero h = not_0 (p - xyz) (omega arith)
  first-gone (suc zero) h = has-half (p - xyz) 0 ∙ not_0 ((p - xyz) / 2) (omega (arith, left-half))
  first-gone (suc (suc zero)) h = has-half (p - xyz) 1 ∙ has-half ((p - xyz) / 2) 0 ∙ not_0 ((p - xyz) / 2 / 2) (omega (arith, left_quarter))
  first-gone (suc (suc (suc k))) h = absurd (omega arith)

  third : (q k : ℕ) → has q (suc (suc (suc k))) ≡ has (q / 2 / 2 / 2) k
  third q k = has-half q (suc (suc k)) ∙ has-half (q / 2) (suc k) ∙ has-half (q / 2 / 2) k

  later_same : (k : ℕ) → has p (suc (suc (suc k))) ≡ has (p - xyz) (suc (suc (suc k)))
  later_same k =
      let h : p / 2 ≡ 4 * (p / xyz_masks) + 3 = omega (arith, e) in
      let q : p / 2 / 2 ≡ 2 * (p / xyz_masks) + 1 = omega (arith, h) in
      let s : p / 2 / 2 / 2 ≡ (p - xyz) / 2 / 2 / 2 = omega (arith, q, left_quarter) in
      third p k ∙ ap (λ (q : ℕ). has q k) s ∙ sym (third (p - xyz) k)

  module _ (r : List ℕ) where
    first-fails : (k : ℕ) → k < 3 → within (raw_word r k) ≡ false → mask_ok r p ≡ false
    unfolding mask_ok
    first-fails k h w = all-fails cells (mask_cell_ok r p) k (omega arith) (there-ok r p k (has_first k h) ∙ w)

    first-same : (k : ℕ) → k < 3 → within (raw_word r k) ≡ true → mask_cell_ok r p k ≡ mask_cell_ok r (p - xyz) k
    first-same k h w = there-ok r p k (has_first k h) ∙ w ∙ sym (absent-ok r (p - xyz) k (first-gone k h))

    rest-same : within (raw_word r 0) ≡ true → within (raw_word r 1) ≡ true → within (raw_word r 2) ≡ true → mask_ok r p ≡ mask_ok r (p - xyz)
    unfolding mask_ok mask_cell_ok
    rest-same a b c = all_ext cells (mask_cell_ok r p) (mask_cell_ok r (p - xyz)) at-cell
      where
        at-cell : (k : ℕ) → k < cells → mask_cell_ok r p k ≡ mask_cell_ok r (p - xyz) k
        at-cell zero h = first-same 0 (omega arith) a
        at-cell (suc zero) h = first-same 1 (omega arith) b
        at-cell (suc (suc zero)) h = first-same 2 (omega arith) c
        at-cell (suc (suc (suc k))) h = rw (later_same k)

    pub three-apart : mask_ok r p ≡ ((within (raw_word r 0) && (within (raw_word r 1) && within (raw_word r 2))) && mask_ok r (p - xyz))
    three-apart =
        by_bit (within (raw_word r 0))
        (λ a. by_bit (within (raw_word r 1))
        (λ b. by_bit (within (raw_word r 2))
        (λ c. rw (a, b, c) (rest-same a b c))
        (λ c. rw (a, b, c) (first-fails 2 (omega arith) c)))
        (λ b. rw (a, b) (first-fails 1 (omega arith) b)))
        (λ a. rw a (first-fails 0 (omega arith) a))
