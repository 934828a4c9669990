-- LAWS. Tracking by the bits of a mask, the lowest first. Assumes nothing.
use Prim.Native.Nat.{ℕ, zero, suc, ◌+◌, ◌-◌, ◌^◌, ◌<◌, ◌≤◌}
use mathlib.Core.Path.{◌≡◌, refl, sym, ◌∙◌, ap, subst}
use mathlib.Core.Bool.{Bool, true, false, ◌&&◌, false≢true}
use mathlib.Core.List.{List}
use mathlib.Core.Logic.{⊎_elim}
use native.Mathlib.Omega.{arith}
use native.Mathlib.Nat.{eq-or-lt_of_le, le_of_suc-le-suc}
use lib.Bits.{bit_and, and_le_r}
use lib.Pow.{pow_pos}
use lib.ListN.{length, get_or}
use lib.Dec.{ltb}
use borrow.Author.Tests.{ltb-true, ltb-false}
use Rattle.floats.specs.Lists.{member}
use Rattle.layout.specs.Layout.{axis_codes, r_cells}
use Rattle.row_cells.specs.Bits.{has, lowest, others}
use Rattle.row_cells.specs.Row.{present_of}
use Rattle.floats.specs.Truth.{by_bit, cond-t, cond-f, and_right}
use Rattle.row_cells.specs.Masks.{has-none, out-same, out-other}
use Rattle.row_cells.specs.BitOps.{has_and}
use Rattle.row_cells.specs.BitWalk.{Lowest, lowest-is}
use Rattle.saved_state.specs.State.{geometric, placed, geometric_mask}
use Rattle.saved_state.specs.StateLaws.{geometric-small}
use Rattle.push_state.specs.Pushed.{track_to}
use Rattle.push_state.specs.PushLaws.{same-to}
use Rattle.saved_state.specs.Axes.{geometric-mask-small, mask-has-axis}

-- ---- axes that take no cell are passed over
abbrev takes : List ℕ → List ℕ → ℕ → Bool
takes st r k = has (present_of r) k && member k (geometric st)

module _ (st r : List ℕ) where
  pass_over : (n m : ℕ) → n ≤ m → ((j : ℕ) → n ≤ j → j < m → takes st r j ≡ false) → track_to m st r ≡ track_to n st r
  unfolding track_to
  pass_over n zero h z = let e : n ≡ 0 = omega arith in ap (λ (i : ℕ). track_to i st r) (sym e)
  pass_over n (suc m) h z =
      ⊎_elim
      (λ (e : n ≡ suc m). ap (λ (i : ℕ). track_to i st r) (sym e))
      (λ (l : n < suc m). cond-f _ _ (z m (le_of_suc-le-suc l) (omega arith)) ∙ pass_over n m (le_of_suc-le-suc l) (λ j a b. z j a (omega arith)))
      (eq-or-lt_of_le h)

  -- A loop's invariant: the axes below `to` have taken their cells, and `rest` has those from there on that will.
  pub record Tracked (rest : ℕ) (state : List ℕ) : Type 0 where
    pub to : ℕ
    pub few : to ≤ axis_codes
    pub is : state ≡ track_to to st r
    pub small : rest < 2 ^ 64
    pub under : (j : ℕ) → j < to → has rest j ≡ false
    pub over : (j : ℕ) → to ≤ j → has rest j ≡ takes st r j

  pub tracked-long : {rest : ℕ} {state : List ℕ} → Tracked rest state → length state ≡ length st
  tracked-long t = ap length t.is ∙ (same-to t.to st r).long

  pub tracked-none : {gs : ℕ} → gs ≡ geometric_mask st → Tracked (bit_and (present_of r) gs) st
  unfolding track_to
  tracked-none {gs} e = record {
    to = 0;
    few = omega arith;
    is = refl;
    small = (let l : gs < 2 ^ axis_codes = rw e (geometric-mask-small st) in omega (arith, and_le_r (present_of r) gs));
    under = λ j h. absurd (omega arith);
    over = λ j h. has_and (present_of r) gs j ∙ ap (λ (b : Bool). has (present_of r) j && b) (ap (λ (m : ℕ). has m j) e ∙ mask-has-axis st j);
  }

  module _ {rest k : ℕ} {state : List ℕ} (t : Tracked rest state) (h : 0 < rest) (e : k ≡ lowest rest) where
    low : Lowest rest k
    low = subst (Lowest rest) (sym e) (lowest-is rest h t.small)

    from : t.to ≤ k
    from = by_bit (ltb k t.to) (λ b. absurd (false≢true (sym (t.under k (ltb-true k t.to b)) ∙ low.there))) (λ b. ltb-false k t.to b)

    taken : takes st r k ≡ true
    taken = sym (t.over k from) ∙ low.there

    pub tracked-axis : k < axis_codes
    tracked-axis = geometric-small st k (and_right (has (present_of r) k) (member k (geometric st)) taken)

    pub tracked-fewer : others rest < rest
    tracked-fewer = omega (arith, pow_pos (lowest rest))

    pub tracked-more : {next : ℕ} {state' : List ℕ} → next ≡ others rest → state' ≡ placed state k (get_or r (r_cells + k) 0) → Tracked next state'
    unfolding track_to
    tracked-more {next} {state'} f g =
        let n : next ≡ rest - 2 ^ k = f ∙ ap (λ (i : ℕ). rest - 2 ^ i) (sym e) in
        let p : track_to k st r ≡ track_to t.to st r = pass_over t.to k from (λ j a b. sym (t.over j a) ∙ low.first j b) in
        let s : state' ≡ track_to (suc k) st r =
        g ∙ ap (λ (l : List ℕ). placed l k (get_or r (r_cells + k) 0)) (t.is ∙ sym p) ∙ sym (cond-t _ _ taken) in
        let other : (j : ℕ) → (j ≡ k → ⊥) → has next j ≡ has rest j = λ j d. rw n (out-other rest k j low.there d) in
        record {
          to = suc k;
          few = tracked-axis;
          is = s;
          small = rw f (omega (arith, t.small));
          under = λ j b. ⊎_elim
              (λ (q : j ≡ k). rw (q, n) (out-same rest k low.there))
              (λ (l : j < k). other j (λ q. omega arith) ∙ low.first j l)
              (eq-or-lt_of_le (le_of_suc-le-suc b));
          over = λ j b. other j (λ q. omega arith) ∙ t.over j (omega (arith, from));
        }

  pub tracked : {rest : ℕ} {state : List ℕ} → Tracked rest state → rest ≡ 0 → state ≡ track_to axis_codes st r
  tracked {rest} {state} t z = t.is ∙ sym (pass_over t.to axis_codes t.few (λ j a b. sym (t.over j a) ∙ rw z (has-none j)))
