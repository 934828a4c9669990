-- LAWS. The axes of a list of codes, marked one after another. Assumes nothing.
use Prim.Native.Nat.{ℕ, ◌+◌, ◌<◌, ◌≤◌}
use mathlib.Core.Path.{◌≡◌, sym, ◌∙◌, ap}
use mathlib.Core.Bool.{Bool, false, ◌||◌, cond, or-false, or-true}
use mathlib.Core.List.{List}
use native.Mathlib.Omega.{arith}
use native.Mathlib.Numerals.{add-one}
use lib.ListN.{length, get_or, drop, drop_of_length-le}
use lib.Seq.{drop-cons}
use lib.Dec.{ltb, eqb}
use borrow.Author.Tests.{eqb-true, eqb-false, ne_eqb, ltb-true, ltb-false}
use Rattle.floats.specs.Lists.{member}
use Rattle.layout.specs.Layout.{axis_codes, axis_masks}
use Rattle.row_cells.specs.Bits.{has, mask_sum, with_bit}
use Rattle.floats.specs.Truth.{by_bit}
use Rattle.row_cells.specs.Masks.{mask-of, has-none, with-same, with-other, with-lt}

module _ (k : ℕ) (l : List ℕ) (i : ℕ) where
  from-here : i < length l → member k (drop i l) ≡ (eqb (get_or l i 0) k || member k (drop (i + 1) l))
  unfolding member
  from-here h = rw (add-one, drop-cons l i 0 h)

  member-end : length l ≤ i → member k (drop i l) ≡ false
  unfolding member
  member-end h = rw (drop_of_length-le l h)

-- ---- the axes of a list, from its front on
pub record Marking (codes : List ℕ) (i m : ℕ) : Type 0 where
  pub small : m < axis_masks
  pub marks : (k : ℕ) → k < axis_codes → (has m k || member k (drop i codes)) ≡ member k codes

pub marking_none : (codes : List ℕ) → Marking codes 0 0
marking_none codes = record { small = omega arith; marks = λ k l. rw (has-none k) }

module _ (codes : List ℕ) (i m : ℕ) (s : Marking codes i m) where
  pub marking_more : {next : ℕ} → next ≡ cond (ltb (get_or codes i 0) axis_codes) (with_bit m (get_or codes i 0)) m → i < length codes
      → Marking codes (i + 1) next
  marking_more f h = rw f (by_bit (ltb (get_or codes i 0) axis_codes)
      (λ b. rw b (record {
        small = with-lt m (get_or codes i 0) axis_codes s.small (ltb-true (get_or codes i 0) axis_codes b);
        marks = λ k l. by_bit (eqb (get_or codes i 0) k)
            (λ t. let e : get_or codes i 0 ≡ k = eqb-true _ _ t in
            rw (ap (λ (j : ℕ). has (with_bit m (get_or codes i 0)) j) (sym e) ∙ with-same m (get_or codes i 0))
            (sym (or-true (has m k)) ∙ ap (λ (b : Bool). has m k || (b || member k (drop (i + 1) codes))) (sym t) ∙ before k l))
            (λ t. rw (with-other m (get_or codes i 0) k (λ e. eqb-false _ _ t (sym e)))
            (ap (λ (b : Bool). has m k || (b || member k (drop (i + 1) codes))) (sym t) ∙ before k l));
      }))
      (λ b. rw b (record {
        small = s.small;
        marks = λ k l. let d : (get_or codes i 0 ≡ k → ⊥) = λ e. omega (arith, ltb-false (get_or codes i 0) axis_codes b) in
            ap (λ (b : Bool). has m k || (b || member k (drop (i + 1) codes))) (sym (ne_eqb (get_or codes i 0) k d)) ∙ before k l;
      })))
    where
      before : (k : ℕ) → k < axis_codes → (has m k || (eqb (get_or codes i 0) k || member k (drop (i + 1) codes))) ≡ member k codes
      before k l = ap (λ (b : Bool). has m k || b) (sym (from-here k codes i h)) ∙ s.marks k l

  pub marked : length codes ≤ i → m ≡ mask_sum (λ (k : ℕ). member k codes) axis_codes
  marked h = mask-of m axis_codes (λ (k : ℕ). member k codes) s.small (λ k l.
      sym (or-false (has m k)) ∙ ap (λ (b : Bool). has m k || b) (sym (member-end k codes i h)) ∙ s.marks k l)
