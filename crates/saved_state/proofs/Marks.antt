-- LAWS. The codes seen in a list so far, as a mask. Assumes nothing.
use Prim.Native.Nat.{ℕ, ◌+◌, ◌<◌, ◌≤◌}
use mathlib.Core.Path.{◌≡◌, refl, sym, ◌∙◌, ap}
use mathlib.Core.Bool.{Bool, true, false, ◌&&◌, not, and-false, and-true}
use mathlib.Core.List.{List}
use native.Mathlib.Omega.{arith}
use native.Mathlib.Numerals.{add-one}
use lib.ListN.{get_or, take, drop}
use lib.Dec.{leb, eqb}
use borrow.Author.Tests.{eqb-true, eqb-false, lt-ltb, leb-true}
use Rattle.floats.specs.Lists.{member, all}
use Rattle.layout.specs.Layout.{axis_codes, last_code, list_codes, list_masks, w_axes}
use Rattle.row_cells.specs.Bits.{has, mask_sum, with_bit}
use Rattle.floats.specs.Truth.{by_bit, and_t, and_left}
use Rattle.row_cells.specs.Masks.{mask-same, has-none, with-same, with-other, with-lt}
use Rattle.saved_state.specs.State.{axis_count, code_ok, geometric_mask}
use Rattle.saved_state.specs.StateLaws.{member-geometric}

-- ---- the codes of a list's first i
abbrev unlike : List ℕ → ℕ → ℕ → Bool
unlike axes k j = not (eqb (get_or axes j 0) k)

pub record Seen (axes : List ℕ) (i seen : ℕ) : Type 0 where
  pub small : seen < list_masks
  pub marks : (k : ℕ) → has seen k ≡ not (all i (unlike axes k))
  pub ok : all i (code_ok axes) ≡ true

pub seen_none : (axes : List ℕ) → Seen axes 0 0
unfolding all
seen_none axes = record { small = omega arith; marks = λ k. has-none k; ok = refl }

not-not : (b : Bool) → not (not b) ≡ b
not-not true = refl
not-not false = refl

module _ (axes : List ℕ) (i seen : ℕ) (s : Seen axes i seen) where
  -- a code is in order where it is one, and not seen
  pub new_ok : (leb (get_or axes i 0) last_code && not (has seen (get_or axes i 0))) ≡ code_ok axes i
  unfolding code_ok
  new_ok = ap (λ (b : Bool). leb (get_or axes i 0) last_code && b) (ap not (s.marks (get_or axes i 0)) ∙ not-not (all i (unlike axes (get_or axes i 0))))

  pub seen_more : {next : ℕ} → next ≡ with_bit seen (get_or axes i 0) → code_ok axes i ≡ true → get_or axes i 0 ≤ last_code → Seen axes (i + 1) next
  unfolding all
  seen_more f q l = rw f (record {
    small = with-lt seen (get_or axes i 0) list_codes s.small (omega arith);
    marks = λ k. by_bit (eqb (get_or axes i 0) k)
        (λ b. let e : get_or axes i 0 ≡ k = eqb-true _ _ b in
        ap (λ (j : ℕ). has (with_bit seen (get_or axes i 0)) j) (sym e) ∙ with-same seen (get_or axes i 0) ∙ rw (add-one, b, and-false (all i (unlike axes k))))
        (λ b. with-other seen (get_or axes i 0) k (λ e. eqb-false _ _ b (sym e)) ∙ s.marks k ∙ rw (add-one, b, and-true (all i (unlike axes k))));
    ok = rw (add-one, s.ok, q);
  })

pub new-small : (seen code : ℕ) (b : Bool) → b ≡ (leb code last_code && not (has seen code)) → b ≡ true → code ≤ last_code
new-small seen code b e t = leb-true code last_code (and_left (leb code last_code) (not (has seen code)) (sym e ∙ t))

pub mask_of_codes : (st codes : List ℕ) → codes ≡ take (axis_count st) (drop w_axes st) → mask_sum (λ (k : ℕ). member k codes) axis_codes ≡ geometric_mask st
mask_of_codes st codes e = mask-same _ _ axis_codes (λ k l. rw e (sym (member-geometric st k ∙ and_t _ (lt-ltb k axis_codes l))))
