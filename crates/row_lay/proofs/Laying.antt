-- LAWS. Words laid over cells by the bits of a mask, the lowest first. Assumes nothing.
use Prim.Native.Nat.{ℕ, suc, ◌+◌, ◌<◌, ◌≤◌}
use mathlib.Core.Path.{◌≡◌, refl, sym, ◌∙◌, ap, subst}
use mathlib.Core.Bool.{true, false, cond}
use mathlib.Core.List.{List, [], ◌∷◌, ◌++◌}
use native.Mathlib.Omega.{arith}
use native.Mathlib.Nat.{mod-eq_of_lt}
use lib.ListN.{length, get_or, set, take, drop, length-set}
use lib.Seq.{length-take-le, set-append_left, get_or-set_same, get_or-set_other, ext_get_or}
use lib.Dec.{eqb}
use borrow.Author.Tests.{eqb-true, eqb-false}
use Rattle.floats.specs.Lists.{upto, spliced}
use Rattle.floats.specs.Fill.{length-upto, at-upto, upto-below}
use Rattle.floats.specs.Truth.{by_bit, cond-t, cond-f}
use Rattle.layout.specs.Layout.{cells, cell_masks}
use Rattle.row_cells.specs.Bits.{has, lowest, others}
use Rattle.row_cells.specs.Masks.{has-none}
use Rattle.row_cells.specs.BitWalk.{Bits, AtBit, bits-first, at-bit, next-same, next-other, bits-next}
use Rattle.row_lay.specs.Over.{over_word}
use Rattle.row_lay.specs.Asks.{Laid}

set_after : (xs ys : List ℕ) (i v : ℕ) → set (xs ++ ys) (length xs + i) v ≡ xs ++ set ys i v
set_after [] ys i v = let e : 0 + i ≡ i = omega arith in rw e
set_after (x ∷ xs) ys i v = let e : suc (length xs) + i ≡ suc (length xs + i) = omega arith in rw e (ap (λ (l : List ℕ). x ∷ l) (set_after xs ys i v))

module _ (g : ℕ → ℕ) (n j v : ℕ) (h : j < n) where
  abbrev with : ℕ → ℕ
  with k = cond (eqb k j) v (g k)

  set-upto : set (upto g n) j v ≡ upto with n
  set-upto =
      let s : j < length (upto g n) = rw (length-upto g n) h in
      ext_get_or 0 (set (upto g n) j v) (upto with n) (length-set (upto g n) j v ∙ length-upto g n ∙ sym (length-upto with n)) (λ k l.
      let b : k < n = omega (arith, length-set (upto g n) j v, length-upto g n) in
      by_bit (eqb k j)
      (λ t. let e : k ≡ j = eqb-true k j t in
      ap (λ (i : ℕ). get_or (set (upto g n) j v) i 0) e ∙ get_or-set_same (upto g n) j v 0 s ∙ sym (at-upto with n k 0 b ∙ cond-t v (g k) t))
      (λ t. get_or-set_other (upto g n) j k v 0 (eqb-false k j t) ∙ at-upto g n k 0 b ∙ sym (at-upto with n k 0 b ∙ cond-f v (g k) t)))

  set_in : (l : List ℕ) (i : ℕ) → i + n ≤ length l → set (spliced l i (upto g n)) (i + j) v ≡ spliced l i (upto with n)
  unfolding spliced
  set_in l i m =
      let t : length (take i l) ≡ i = length-take-le i l (omega arith) in
      let s : j < length (upto g n) = rw (length-upto g n) h in
      let e : length (upto g n) ≡ length (upto with n) = length-upto g n ∙ sym (length-upto with n) in
      ap (λ (a : ℕ). set (spliced l i (upto g n)) (a + j) v) (sym t)
      ∙ set_after (take i l) (upto g n ++ drop (i + length (upto g n)) l) j v
      ∙ ap (λ (r : List ℕ). take i l ++ r)
      (set-append_left (upto g n) (drop (i + length (upto g n)) l) j v s
      ∙ ap (λ (r : List ℕ). r ++ drop (i + length (upto g n)) l) set-upto
      ∙ ap (λ (a : ℕ). upto with n ++ drop (i + a) l) e)

-- A loop's invariant: of the words that the mask has, those that are not in `rest` lie over what the cells were.
pub record Laying (mask : ℕ) (ws : List ℕ) (i rest : ℕ) (l xs : List ℕ) : Type 0 where
  pub bits : Bits mask cells rest
  pub same : length xs ≡ length l
  pub is : (m : List ℕ) (f : ℕ → ℕ) → i + cells ≤ length m → l ≡ spliced m i (upto f cells)
      → xs ≡ spliced m i (upto (λ (k : ℕ). cond (has rest k) (f k) (over_word mask ws f k)) cells)

module _ {mask i : ℕ} {ws l : List ℕ} where
  pub laying_first : mask < cell_masks → Laying mask ws i mask l l
  laying_first s = record {
    bits = subst (Bits mask cells) (mod-eq_of_lt s) (bits-first (omega arith));
    same = refl;
    is = λ m f h e. e ∙ ap (spliced m i) (upto-below f _ cells (λ k b. by_bit (has mask k) (λ t. rw t) (λ t. rw t)));
  }

  module _ {rest k next v : ℕ} {xs : List ℕ} (s : Laying mask ws i rest l xs) where
    pub laying_more : 0 < rest → k ≡ lowest rest → next ≡ others rest → v ≡ get_or ws k 0 → Laying mask ws i next l (set xs (i + k) v)
    laying_more h e d q = record {
      bits = bits-next s.bits h e d;
      same = length-set xs (i + k) v ∙ s.same;
      is = λ m f r o. ap (λ (a : List ℕ). set a (i + k) v) (s.is m f r o)
          ∙ set_in (λ (j : ℕ). cond (has rest j) (f j) (over_word mask ws f j)) cells k v a.below m i r
          ∙ ap (spliced m i) (upto-below _ _ cells (λ j b. by_bit (eqb j k) (λ t. here f j t) (λ t. cond-f v _ t ∙ rw (there j t))));
    }
      where
        a : AtBit mask cells rest k
        a = at-bit s.bits h e

        here : (f : ℕ → ℕ) (j : ℕ) → eqb j k ≡ true
            → cond (eqb j k) v (cond (has rest j) (f j) (over_word mask ws f j)) ≡ cond (has next j) (f j) (over_word mask ws f j)
        here f j t =
            let z : j ≡ k = eqb-true j k t in
            cond-t v _ t ∙ q ∙ rw z (sym (cond-f (f k) _ (next-same s.bits h e d) ∙ cond-t (get_or ws k 0) (f k) a.there))

        there : (j : ℕ) → eqb j k ≡ false → has next j ≡ has rest j
        there j t = next-other s.bits h e d j (eqb-false j k t)

  pub laid : {rest : ℕ} {xs : List ℕ} → Laying mask ws i rest l xs → rest ≡ 0 → Laid l i mask ws xs
  laid s z = record {
    same = s.same;
    is = λ m f h e. s.is m f h e ∙ ap (spliced m i) (upto-below _ _ cells (λ k b. rw (z, has-none k)));
  }
