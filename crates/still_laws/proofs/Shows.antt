-- LAWS. 10.2: a row shows something where a cell of a path is present, code by code. Assumes nothing.
use Rattle.std.specs.Prelude.{ℕ, ◌<◌, ◌≤◌, ◌≡◌, refl, true, false, ◌&&◌, not, List, leb, ltb, eqb}
use Rattle.std.proofs.Common.{sym, ◌∙◌, ap, arith, ne_eqb, leb-true, ltb-true}
use Rattle.std.proofs.lemmas.Bool.{false≢true, eqb-false, not-true}
use Rattle.std.specs.Int.Bits.{bit_and}
use Rattle.std.proofs.lemmas.Nat.{and_le_r}
use Rattle.floats.specs.Truth.{by_bit, and_i, and_left, and_right, or_f}
use Rattle.layout.specs.Layout.{axis_codes, c_offset, c_cr, cells}
use Rattle.row_cells.specs.Bits.{has, mask_sum, lowest}
use Rattle.row_cells.specs.Masks.{has-none, has-mask, mask_lt, below-bits}
use Rattle.row_cells.specs.BitOps.{has_and}
use Rattle.row_cells.specs.BitWalk.{lowest-is}
use Rattle.row_cells.specs.Row.{present_of}
use Rattle.still_curved.specs.Curved.{path_mask, shows}
use Rattle.still_laws.specs.Statements.{on_path, Shown, ShowsSome}

mask_is : path_mask ≡ mask_sum on_path cells
unfolding mask_sum
mask_is = refl

path-below : (k : ℕ) → on_path k ≡ true → k < cells
path-below k p =
    by_bit (ltb k axis_codes)
    (λ t. omega (arith, ltb-true k axis_codes t))
    (λ f. let q : (leb c_offset k && leb k c_cr) ≡ true = sym (or_f (leb c_offset k && leb k c_cr) f) ∙ p in
    omega (arith, leb-true k c_cr (and_right (leb c_offset k) (leb k c_cr) q)))

on-mask : (k : ℕ) → on_path k ≡ true → has path_mask k ≡ true
on-mask k p = ap (λ (m : ℕ). has m k) mask_is ∙ has-mask on_path cells k (path-below k p) ∙ p

of_mask : (k : ℕ) → has path_mask k ≡ true → on_path k ≡ true
of_mask k h =
    let g : has (mask_sum on_path cells) k ≡ true = sym (ap (λ (m : ℕ). has m k) mask_is) ∙ h in
    sym (has-mask on_path cells k (below-bits (mask_sum on_path cells) cells k (mask_lt on_path cells) g)) ∙ g

shown-some : (row : List ℕ) → shows row ≡ true → Shown row
unfolding shows
shown-some row s =
    let p : ℕ = bit_and (present_of row) path_mask in
    let d : p ≡ 0 → ⊥ = eqb-false p 0 (not-true (eqb p 0) s) in
    let m : p ≤ path_mask = and_le_r (present_of row) path_mask in
    let b : has p (lowest p) ≡ true = (lowest-is p (omega (arith, d)) (omega (arith, m))).there in
    let both : (has (present_of row) (lowest p) && has path_mask (lowest p)) ≡ true = sym (has_and (present_of row) path_mask (lowest p)) ∙ b in
    record {
      code = lowest p;
      path = of_mask (lowest p) (and_right (has (present_of row) (lowest p)) (has path_mask (lowest p)) both);
      present = and_left (has (present_of row) (lowest p)) (has path_mask (lowest p)) both;
    }

some-shown : (row : List ℕ) → Shown row → shows row ≡ true
unfolding shows
some-shown row w =
    let b : has (bit_and (present_of row) path_mask) w.code ≡ true =
    has_and (present_of row) path_mask w.code ∙ and_i w.present (on-mask w.code w.path) in
    ap not (ne_eqb (bit_and (present_of row) path_mask) 0 (λ e.
    false≢true (sym (ap (λ (n : ℕ). has n w.code) e ∙ has-none w.code) ∙ b)))

pub shows-some : ShowsSome
shows-some row = (shown-some row, some-shown row)
