-- LAWS. The mask of the geometric axes. Assumes nothing.
use Rattle.std.specs.Prelude.{ℕ, ◌<◌, ◌≤◌, ◌≡◌, Bool, false, List, ltb}
use Rattle.std.proofs.Common.{sym, ◌∙◌, arith, ltb-true, ltb-false}
use Rattle.floats.specs.Lists.{member}
use Rattle.floats.specs.Truth.{by_bit}
use Rattle.layout.specs.Layout.{axis_codes, axis_masks}
use Rattle.row_cells.specs.Bits.{has}
use Rattle.row_cells.specs.Row.{axes_of}
use Rattle.row_cells.specs.Masks.{mask_lt, has-mask, has-past, member-small}
use Rattle.saved_state.specs.State.{geometric, geometric_mask}
use Rattle.saved_state.specs.StateLaws.{geometric-small}

pub geometric-mask-small : (st : List ℕ) → geometric_mask st < axis_masks
geometric-mask-small st = mask_lt (λ (k : ℕ). member k (geometric st)) axis_codes

pub beyond : (st : List ℕ) (k : ℕ) → axis_codes ≤ k → member k (geometric st) ≡ false
beyond st k h = by_bit (member k (geometric st)) (λ m. let l : k < axis_codes = geometric-small st k m in absurd (omega arith)) (λ m. m)

pub mask_members : (st : List ℕ) (k : ℕ) → member k (axes_of (geometric_mask st)) ≡ member k (geometric st)
mask_members st k =
    let f : ℕ → Bool = λ (j : ℕ). member j (geometric st) in
    member-small (geometric_mask st) k (geometric-mask-small st)
    ∙ by_bit (ltb k axis_codes)
    (λ b. has-mask f axis_codes k (ltb-true k axis_codes b))
    (λ b. has-past (geometric_mask st) axis_codes k (geometric-mask-small st) (ltb-false k axis_codes b) ∙ sym (beyond st k (ltb-false k axis_codes b)))

pub mask-has-axis : (st : List ℕ) (k : ℕ) → has (geometric_mask st) k ≡ member k (geometric st)
mask-has-axis st k = sym (member-small (geometric_mask st) k (geometric-mask-small st)) ∙ mask_members st k
