-- LAWS. The axes that the rows of an arc have, by bits. Assumes nothing.
use Prim.Native.Nat.{ℕ, ◌^◌, ◌<◌}
use mathlib.Core.Path.{◌≡◌, sym, ◌∙◌, ap}
use mathlib.Core.Bool.{or-true}
use native.Mathlib.Nat.{lt_of_le_of_lt}
use lib.Bits.{bit_and, and_le_l}
use lib.Dec.{eqb}
use borrow.Author.Tests.{eqb-true, eqb-false}
use Rattle.floats.specs.Truth.{by_bit}
use Rattle.layout.specs.Layout.{axis_codes}
use Rattle.row_cells.specs.Bits.{has, with_bit, mask_sum}
use Rattle.row_cells.specs.BitOps.{has_and}
use Rattle.row_cells.specs.Masks.{with-same, with-other, with-lt, mask-of}
use Rattle.arc_words.specs.Words.{drawn}

module _ (gs p u v : ℕ) where
  has-drawn : (k : ℕ) → has (with_bit (with_bit (bit_and gs p) u) v) k ≡ drawn gs p u v k
  unfolding drawn
  has-drawn k =
      let m = with_bit (bit_and gs p) u in
      by_bit (eqb k v)
      (λ b. ap (has (with_bit m v)) (eqb-true k v b) ∙ with-same m v ∙ sym (rw b (or-true (eqb k u))))
      (λ b. with-other m v k (eqb-false k v b) ∙ by_bit (eqb k u)
      (λ a. ap (has m) (eqb-true k u a) ∙ with-same (bit_and gs p) u ∙ rw a)
      (λ a. with-other (bit_and gs p) u k (eqb-false k u a) ∙ has_and gs p k ∙ rw (a, b)))

  pub drawn-bits : gs < 2 ^ axis_codes → u < axis_codes → v < axis_codes → with_bit (with_bit (bit_and gs p) u) v ≡ mask_sum (drawn gs p u v) axis_codes
  drawn-bits small on_u on_v =
      let m = with_bit (bit_and gs p) u in
      let few : m < 2 ^ axis_codes = with-lt (bit_and gs p) u axis_codes (lt_of_le_of_lt (and_le_l gs p) small) on_u in
      mask-of (with_bit m v) axis_codes (drawn gs p u v) (with-lt m v axis_codes few on_v) (λ k h. has-drawn k)
