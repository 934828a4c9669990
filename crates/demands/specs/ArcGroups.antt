-- LAWS. The group of a block of no spline is as demand 3 asks: a row passed on, or an arc's rows. Assumes nothing.
use Rattle.std.specs.Prelude.{ℕ, ◌+◌, ◌-◌, ◌<◌, ◌≡◌, Bool, true, false, List, eqb, Float}
use Rattle.std.proofs.Math.Path.{refl, ap}
use Rattle.std.proofs.Common.{sym, ◌∙◌, subst}
use Rattle.std.proofs.lemmas.Bool.{false≢true}
use Rattle.std.proofs.Math.Option.{Option, none, some, get_or}
use native.Mathlib.Omega.{arith}
use borrow.Author.Tests.{eqb-true, eqb-false, eq-eqb, ne_eqb}
use Rattle.std.specs.Float.Ieee.{eq}
use Rattle.floats.specs.Numbers.{num, bits, of_nat, ◌⊘◌}
use Rattle.floats.specs.Lists.{upto, member}
use Rattle.layout.specs.Layout.{axis_codes}
use Rattle.motion.specs.Motion.{g_one, kind_of, spline_kind, is_spline}
use Rattle.motion.specs.declared.Kind.{Kind}
use Rattle.motion.specs.declared.Kind.TheVariants.{Same, Linear, Clockwise, Counter, Akima, Basis, Cubic, Other, Refused}
use Rattle.row_cells.specs.Codes.{plane_u, plane_v}
use Rattle.row_cells.specs.Row.{cell, line_of, mark_of}
use Rattle.row_made.specs.Made.{made_row}
use Rattle.floats.specs.Truth.{by_bit, cond-t, cond-f}
use Rattle.arc_answer.specs.Arc.{Answer, passed, silent, Centre, centred, warned, Ends, Arc, wanted_of, count_of, last_cell, mid_cell, arc_row}
use Rattle.arc_answer.specs.Arc.{arc_rows, from_centre}
use Rattle.arc_answer.specs.Arc.{from_start, arc_answer}
use Rattle.call_answer.specs.Answer.{answer_as}
use Rattle.demand_calls.specs.Laws.{none-some, cond_both}
use Rattle.demand_groups.specs.Group.{Formed, Bare, Carries, Group}
use Rattle.demand_groups.specs.InRange.{shown-bits}
use Rattle.demand_groups.proofs.Shapes.{upto_shaped, made-line, made-mark, made-formed, made-shows, made-bare, made-carries, out_shaped, programmed}
use Rattle.demand_groups.proofs.Shapes.{same_number}
use Rattle.demand_state.specs.Accepted.{Fine}

module _ (gs r : List ℕ) (fine : Fine r) (small : (k : ℕ) → member k gs ≡ true → k < axis_codes) (plane : ℕ) (pos : ℕ → Option ℕ) where
  -- ---- the rows of an arc whose plane axes are listed
  module _ (su sv : ℕ) (on_u : member (plane_u plane) gs ≡ true) (on_v : member (plane_v plane) gs ≡ true) (e : Ends) (c : Arc)
      (eu : e.eu ≡ num (get_or (cell r (plane_u plane)) su)) (ev : e.ev ≡ num (get_or (cell r (plane_v plane)) sv)) where
    -- an axis that is not listed is no plane axis
    not-plane : (k u : ℕ) → member u gs ≡ true → member k gs ≡ false → eqb k u ≡ false
    not-plane k u a b = ne_eqb k u (λ q. false≢true (sym b ∙ subst (λ (i : ℕ). member i gs ≡ true) (sym q) a))

    last_off : (k : ℕ) → member k gs ≡ false → last_cell gs plane e r k ≡ none
    unfolding last_cell
    last_off k b = cond-f _ _ (not-plane k (plane_u plane) on_u b) ∙ cond-f _ _ (not-plane k (plane_v plane) on_v b) ∙ cond-f _ none b

    mid-off : (f : Float) (k : ℕ) → member k gs ≡ false → mid_cell gs plane pos r c f k ≡ none
    unfolding mid_cell
    mid-off f k b = cond-f _ _ (not-plane k (plane_u plane) on_u b) ∙ cond-f _ _ (not-plane k (plane_v plane) on_v b) ∙ cond-f _ none b

    -- the end of a plane axis: the programmed number
    plane-end : (k v w : ℕ) (x : Float) (start : ℕ) → x ≡ num (get_or (cell r k) start) → member k gs ≡ true → cell r k ≡ some v → some (bits x) ≡ some w
        → eq (num w) (num v) ≡ true
    plane-end k v w x start ex m pv cw =
        let y : x ≡ num v = ex ∙ ap (λ (o : Option ℕ). num (get_or o start)) pv in
        let z : w ≡ bits (num v) = sym (let q : bits x ≡ w = cc in q) ∙ ap bits y in
        ap (λ (i : ℕ). eq (num i) (num v)) z ∙ (let h : k < axis_codes = small k m in shown-bits v (programmed gs r fine k v (omega arith) pv))

    last-ends : (k v w : ℕ) → member k gs ≡ true → cell r k ≡ some v → last_cell gs plane e r k ≡ some w → eq (num w) (num v) ≡ true
    unfolding last_cell
    last-ends k v w m pv cw =
        by_bit (eqb k (plane_u plane))
        (λ a. let q : k ≡ plane_u plane = eqb-true k (plane_u plane) a in
        plane-end k v w e.eu su (eu ∙ ap (λ (i : ℕ). num (get_or (cell r i) su)) (sym q)) m pv (sym (cond-t _ _ a) ∙ cw))
        (λ a. by_bit (eqb k (plane_v plane))
        (λ b. let q : k ≡ plane_v plane = eqb-true k (plane_v plane) b in
        plane-end k v w e.ev sv (ev ∙ ap (λ (i : ℕ). num (get_or (cell r i) sv)) (sym q)) m pv (sym (cond-f _ _ a ∙ cond-t _ _ b) ∙ cw))
        (λ b. let h : k < axis_codes = small k m in same_number gs r fine k v w (omega arith) pv (sym (cond-f _ _ a ∙ cond-f _ _ b ∙ cond-t _ none m) ∙ cw)))

    module _ (n : ℕ) where
      row : ℕ → List ℕ
      row i = arc_row gs plane pos r e c n (i + 1)

      row_last : (i : ℕ) → i + 1 ≡ n → row i ≡ made_row gs r (eqb (i + 1) 1) g_one false (last_cell gs plane e r)
      unfolding row arc_row
      row_last i q = cond-t _ _ (eq-eqb (i + 1) n q)

      row-mid : (i : ℕ) → (i + 1 ≡ n → ⊥) → row i ≡ made_row gs r (eqb (i + 1) 1) g_one true (mid_cell gs plane pos r c (of_nat (i + 1) ⊘ of_nat n))
      unfolding row arc_row
      row-mid i d = cond-f _ _ (ne_eqb (i + 1) n d)

      row_line : (i : ℕ) → line_of (row i) ≡ line_of r
      row_line i =
          by_bit (eqb (i + 1) n)
          (λ a. ap line_of (row_last i (eqb-true _ _ a)) ∙ made-line gs r _ _ _ _)
          (λ a. ap line_of (row-mid i (eqb-false _ _ a)) ∙ made-line gs r _ _ _ _)

      row-formed : (i : ℕ) → Formed (row i)
      row-formed i =
          by_bit (eqb (i + 1) n)
          (λ a. subst (λ (l : List ℕ). Formed l) (sym (row_last i (eqb-true _ _ a))) (made-formed gs r _ _ _ _))
          (λ a. subst (λ (l : List ℕ). Formed l) (sym (row-mid i (eqb-false _ _ a))) (made-formed gs r _ _ _ _))

      row-bare : (i : ℕ) → 0 < i → Bare gs (row i)
      row-bare i p =
          let f : eqb (i + 1) 1 ≡ false = ne_eqb (i + 1) 1 (λ q. omega arith) in
          by_bit (eqb (i + 1) n)
          (λ a.
          subst (λ (l : List ℕ). Bare gs l) (sym (row_last i (eqb-true _ _ a) ∙ ap (λ (b : Bool). made_row gs r b g_one false (last_cell gs plane e r)) f))
          (made-bare gs r g_one false _ last_off))
          (λ a.
          subst (λ (l : List ℕ). Bare gs l)
          (sym (row-mid i (eqb-false _ _ a) ∙ ap (λ (b : Bool). made_row gs r b g_one true (mid_cell gs plane pos r c (of_nat (i + 1) ⊘ of_nat n))) f))
          (made-bare gs r g_one true _ (mid-off _)))

      first-carries : Carries gs r (row 0)
      first-carries =
          by_bit (eqb (0 + 1) n)
          (λ a. subst (λ (l : List ℕ). Carries gs r l) (sym (row_last 0 (eqb-true _ _ a))) (made-carries gs r g_one false _))
          (λ a. subst (λ (l : List ℕ). Carries gs r l) (sym (row-mid 0 (eqb-false _ _ a))) (made-carries gs r g_one true _))

      row-marked : (i : ℕ) → i + 1 < n → mark_of (row i) ≡ 1
      row-marked i h = ap mark_of (row-mid i (λ q. omega arith)) ∙ made-mark gs r _ _ _ _

      rows_shaped : {last : Bool} → 0 < n → Group gs r last (upto row n)
      rows_shaped p = upto_shaped row n p (λ i h. row-formed i) (λ i h. row_line i) first-carries (λ i q h. row-bare i q) row-marked
          (λ u a k v w h pv cw.
          let z : n - 1 + 1 ≡ n = omega arith in
          made-shows gs r fine _ g_one false (last_cell gs plane e r) last_off last-ends k v w h pv
          (ap (λ (l : List ℕ). cell l k) (sym (row_last (n - 1) z)) ∙ cw))

    some-rows : (wanted : ℕ) → 0 < count_of wanted
    unfolding count_of
    some-rows wanted = omega arith

    arc_shaped : {last : Bool} → Group gs r last (arc_rows gs plane pos r e c).rows
    unfolding arc_rows row
    arc_shaped = rows_shaped (count_of (wanted_of c)) (some-rows (wanted_of c))

  pass_shaped : {last : Bool} (n : ℕ) → Group gs r last (passed n r).rows
  unfolding passed
  pass_shaped n = out_shaped gs r fine

  -- a plane axis that has a position is listed
  module _ (off : (k : ℕ) → member k gs ≡ false → pos k ≡ none) (tol : Float) (cw : Bool) where
    listed : (k x : ℕ) → pos k ≡ some x → member k gs ≡ true
    listed k x q = by_bit (member k gs) (λ a. a) (λ a. absurd (none-some (sym (off k a) ∙ q)))

    centre_shaped : {last : Bool} (su sv : ℕ) → pos (plane_u plane) ≡ some su → pos (plane_v plane) ≡ some sv → (e : Ends)
        → e.eu ≡ num (get_or (cell r (plane_u plane)) su) → e.ev ≡ num (get_or (cell r (plane_v plane)) sv)
        → (c : Centre) → Group gs r last (from_centre tol gs plane cw pos r e c).rows
    unfolding from_centre
    centre_shaped su sv pu pv e eu ev (centred cu cv) = arc_shaped su sv (listed (plane_u plane) su pu) (listed (plane_v plane) sv pv) e _ eu ev
    centre_shaped su sv pu pv e eu ev (warned n) = pass_shaped n

    start_shaped : {last : Bool} (su sv : Option ℕ) → pos (plane_u plane) ≡ su → pos (plane_v plane) ≡ sv
        → Group gs r last (from_start tol gs plane cw pos r su sv).rows
    unfolding from_start
    start_shaped none sv pu pv = pass_shaped 1
    start_shaped (some su) none pu pv = pass_shaped 1
    start_shaped (some su) (some sv) pu pv = centre_shaped su sv pu pv _ refl refl _

    arc_answer_shaped : {last : Bool} → Group gs r last (arc_answer tol gs plane cw pos r).rows
    unfolding arc_answer
    arc_answer_shaped {last} =
        cond_both (λ (a : Answer). Group gs r last a.rows) (silent gs plane r)
        (pass_shaped 0)
        (start_shaped (pos (plane_u plane)) (pos (plane_v plane)) refl refl)

kind_shaped : (gs r : List ℕ) → Fine r → ((k : ℕ) → member k gs ≡ true → k < axis_codes) → (plane : ℕ) (pos : ℕ → Option ℕ)
    → ((k : ℕ) → member k gs ≡ false → pos k ≡ none)
    → (tol : Float) (m : Kind) → spline_kind m ≡ false → {last : Bool} → Group gs r last (answer_as m tol gs plane pos r).rows
unfolding answer_as
kind_shaped gs r fine small plane pos off tol Same f = pass_shaped gs r fine small plane pos 0
kind_shaped gs r fine small plane pos off tol Linear f = pass_shaped gs r fine small plane pos 0
kind_shaped gs r fine small plane pos off tol Clockwise f = arc_answer_shaped gs r fine small plane pos off tol true
kind_shaped gs r fine small plane pos off tol Counter f = arc_answer_shaped gs r fine small plane pos off tol false
kind_shaped gs r fine small plane pos off tol Akima f = absurd (false≢true (sym f))
kind_shaped gs r fine small plane pos off tol Basis f = absurd (false≢true (sym f))
kind_shaped gs r fine small plane pos off tol Cubic f = absurd (false≢true (sym f))
kind_shaped gs r fine small plane pos off tol Other f = pass_shaped gs r fine small plane pos 0
kind_shaped gs r fine small plane pos off tol Refused f = pass_shaped gs r fine small plane pos 0

-- the group of a block of no spline
pub own_shaped : (gs r : List ℕ) → Fine r → ((k : ℕ) → member k gs ≡ true → k < axis_codes) → (plane : ℕ) (pos : ℕ → Option ℕ)
    → ((k : ℕ) → member k gs ≡ false → pos k ≡ none)
    → (tol : Float) (m : ℕ) → is_spline m ≡ false → {last : Bool} → Group gs r last (answer_as (kind_of m) tol gs plane pos r).rows
unfolding is_spline
own_shaped gs r fine small plane pos off tol m f = kind_shaped gs r fine small plane pos off tol (kind_of m) f
