-- LAWS. What a block resolved is ready for, and that its own rows are those of its kind. Assumes nothing.
use Rattle.std.specs.Prelude.{ℕ, ◌+◌, ◌*◌, ◌^◌, ◌<◌, ◌≤◌, ◌≡◌, Bool, cond, get_or, take, drop, eqb, ltb, Float}
use Rattle.std.proofs.Math.Path.{sym, ap, fun_ext}
use Rattle.std.proofs.Common.{◌∙◌, subst, arith, get_or-take, get_or-drop, ltb-true, ltb-false, eq-eqb, ne_eqb}
use Rattle.std.proofs.Math.Bool.{true, false}
use mathlib.Core.List.{List, []}
use Rattle.std.proofs.Math.Option.{Option, none, some}
use Rattle.std.proofs.Math.ListN.{length}
use Rattle.layout.specs.Layout.{axis_codes, axis_masks, row_words, w_known}
use Rattle.motion.specs.Motion.{kind_of}
use Rattle.motion.specs.declared.Kind.{Kind}
use Rattle.motion.specs.declared.Kind.TheVariants.{Same, Linear, Clockwise, Counter, Akima, Basis, Cubic, Other, Refused}
use Rattle.row_cells.specs.Bits.{has}
use Rattle.row_cells.specs.Row.{shown, axes_of}
use Rattle.row_check.specs.Check.{row_check}
use Rattle.floats.specs.Truth.{by_bit, cond-t, cond-f}
use Rattle.row_cells.specs.Masks.{has-past}
use Rattle.arc_answer.specs.Arc.{Answer, passed, arc_answer}
use Rattle.arc_rows.specs.declared.Plan.{Plan}
use Rattle.arc_rows.specs.Plan.{pass_plan, plan_rows, way_rows, Planned, WriteOf}
use Rattle.saved_state.specs.State.{geometric, tolerance, state_ok, point_word, position, geometric_mask}
use Rattle.saved_state.specs.StateLaws.{good, point-small}
use Rattle.saved_state.specs.Axes.{geometric-mask-small, mask_members}
use Rattle.push_resolve.specs.Blocks.{motion_then, plane_then}
use Rattle.call_answer.specs.Answer.{answer_as, own_answer}
use Rattle.push_resolve.specs.BlockLaws.{block}
use Rattle.push_resolve.specs.declared.Resolved.{Resolved}
use Rattle.push_resolve.specs.Resolved.{resolved}
use Rattle.push_rows.specs.ArcSame.{arc_same}
use Rattle.push_rows.specs.Own.{Ready, none_plan, own_rows, OwnPlanned, TurnPlanned}

-- the positions, as a mask and the words after it, one an axis
pub place_is : (st : List ℕ) → get_or st w_known 0 < 2 ^ axis_codes → shown (get_or st w_known 0) (take axis_codes (drop (w_known + 1) st)) ≡ position st
unfolding shown point_word
place_is st h =
    fun_ext (λ k.
    by_bit (ltb k axis_codes)
    (λ b.
    ap (λ (x : ℕ). cond (has (get_or st w_known 0) k) (some x) none)
    (get_or-take axis_codes (drop (w_known + 1) st) k 0 (ltb-true k axis_codes b) ∙ get_or-drop (w_known + 1) st k 0))
    (λ b. rw (has-past (get_or st w_known 0) axis_codes k h (ltb-false k axis_codes b))))

pub ready : (st r : List ℕ) (b : Resolved) → state_ok st ≡ true → row_check r ≡ 0 → b ≡ resolved st r → Ready st r b
ready st r b ok pass e = record { block = block st r ok pass; told = e; known = point-small st w_known (good st ok).known }

module _ {st r : List ℕ} {b : Resolved} (y : Ready st r b) where
  pub ready-axes : b.axes ≡ geometric_mask st
  ready-axes = ap (λ (x : Resolved). x.axes) y.told

  pub ready-plane : b.plane ≡ plane_then st r
  ready-plane = ap (λ (x : Resolved). x.plane) y.told

  pub ready-kind : {k : Kind} → b.kind ≡ k → kind_of (motion_then st r) ≡ k
  ready-kind e = sym (ap (λ (x : Resolved). x.kind) y.told) ∙ e

  pub ready-small : b.axes < axis_masks
  ready-small = rw ready-axes (geometric-mask-small st)

pub turn-planned : (st r : List ℕ) (cw : Bool) (p : Plan) (gs plane : ℕ) (pos : ℕ → Option ℕ) (tol : Float)
    → gs ≡ geometric_mask st → plane ≡ plane_then st r → tol ≡ tolerance st → pos ≡ position st
    → Planned (axes_of gs) plane pos r (arc_answer tol (axes_of gs) plane cw pos r) p → TurnPlanned st r cw p
turn-planned st r cw p gs plane pos tol eg ep et es h =
    let q : Planned (axes_of (geometric_mask st)) (plane_then st r) (position st) r
    (arc_answer (tolerance st) (axes_of (geometric_mask st)) (plane_then st r) cw (position st) r) p =
    rw (eg, ep, et, es) at h in
    subst (λ (a : Answer). Planned (axes_of (geometric_mask st)) (plane_then st r) (position st) r a p)
    (arc_same (axes_of (geometric_mask st)) (geometric st) (mask_members st) (tolerance st) (plane_then st r) cw (position st) r) q

some-rows : {a b : List (List ℕ)} (n : ℕ) → 1 ≤ n → a ≡ b → cond (eqb n 0) [] a ≡ b
some-rows n h e = rw (ne_eqb n 0 (λ z. omega arith)) e

module _ (st r : List ℕ) (p : Plan) where
  own_turn : (cw : Bool) → own_answer st r ≡ arc_answer (tolerance st) (geometric st) (plane_then st r) cw (position st) r → TurnPlanned st r cw p
      → OwnPlanned st r p
  unfolding own_rows
  own_turn cw e h =
      record {
        rows = some-rows p.count h.least (h.rows ∙ ap (λ (a : Answer). a.rows) (sym e));
        count = h.count ∙ ap (λ (a : Answer). length a.rows) (sym e);
        warning = h.warning ∙ ap (λ (a : Answer). a.warning) (sym e);
        wanted = h.wanted ∙ ap (λ (a : Answer). a.wanted) (sym e);
        held = h.held ∙ ap (λ (a : Answer). a.held) (sym e);
      }

  pub own_clockwise : kind_of (motion_then st r) ≡ Clockwise → TurnPlanned st r true p → OwnPlanned st r p
  unfolding own_answer answer_as
  own_clockwise e h = own_turn true (rw e) h

  pub own_counter : kind_of (motion_then st r) ≡ Counter → TurnPlanned st r false p → OwnPlanned st r p
  unfolding own_answer answer_as
  own_counter e h = own_turn false (rw e) h

  -- a block that passes
  own_pass : own_answer st r ≡ passed 0 r → p ≡ pass_plan 0 → OwnPlanned st r p
  unfolding passed own_rows way_rows
  own_pass e q = rw q (record {
    rows = ap (λ (a : Answer). a.rows) (sym e);
    count = ap (λ (a : Answer). length a.rows) (sym e);
    warning = ap (λ (a : Answer). a.warning) (sym e);
    wanted = ap (λ (a : Answer). a.wanted) (sym e);
    held = ap (λ (a : Answer). a.held) (sym e);
  })

  pub own_same : kind_of (motion_then st r) ≡ Same → p ≡ pass_plan 0 → OwnPlanned st r p
  unfolding own_answer answer_as
  own_same e q = own_pass (rw e) q

  pub own_linear : kind_of (motion_then st r) ≡ Linear → p ≡ pass_plan 0 → OwnPlanned st r p
  unfolding own_answer answer_as
  own_linear e q = own_pass (rw e) q

  pub own-other : kind_of (motion_then st r) ≡ Other → p ≡ pass_plan 0 → OwnPlanned st r p
  unfolding own_answer answer_as
  own-other e q = own_pass (rw e) q

  pub own-refused : kind_of (motion_then st r) ≡ Refused → p ≡ pass_plan 0 → OwnPlanned st r p
  unfolding own_answer answer_as
  own-refused e q = own_pass (rw e) q

  -- a block of a spline has no row yet
  own-none : own_answer st r ≡ record { rows = []; warning = 0; wanted = 0; held = 0 } → p ≡ none_plan → OwnPlanned st r p
  unfolding own_rows
  own-none e q = rw q (record {
    rows = ap (λ (a : Answer). a.rows) (sym e);
    count = ap (λ (a : Answer). length a.rows) (sym e);
    warning = ap (λ (a : Answer). a.warning) (sym e);
    wanted = ap (λ (a : Answer). a.wanted) (sym e);
    held = ap (λ (a : Answer). a.held) (sym e);
  })

  pub own_akima : kind_of (motion_then st r) ≡ Akima → p ≡ none_plan → OwnPlanned st r p
  unfolding own_answer answer_as
  own_akima e q = own-none (rw e) q

  pub own-basis : kind_of (motion_then st r) ≡ Basis → p ≡ none_plan → OwnPlanned st r p
  unfolding own_answer answer_as
  own-basis e q = own-none (rw e) q

  pub own-cubic : kind_of (motion_then st r) ≡ Cubic → p ≡ none_plan → OwnPlanned st r p
  unfolding own_answer answer_as
  own-cubic e q = own-none (rw e) q

  -- what is planned can be written
  pub own_write : (rows : List ℕ) (from : ℕ) → OwnPlanned st r p → (p.count ≡ 0 → ⊥) → from + p.count * row_words ≤ length rows
      → WriteOf (axes_of (geometric_mask st)) (plane_then st r) (position st) r rows from p
  unfolding own_rows
  own_write rows from h d room =
      let e : plan_rows (axes_of (geometric_mask st)) (plane_then st r) (position st) r p ≡ (own_answer st r).rows =
      sym (cond-f [] _ (ne_eqb p.count 0 d)) ∙ h.rows in
      record { count = h.count ∙ ap length (sym e); least = omega (arith, d); room = room }

  pub own-rows : (p.count ≡ 0 → ⊥) → plan_rows (axes_of (geometric_mask st)) (plane_then st r) (position st) r p ≡ own_rows st r p
  unfolding own_rows
  own-rows d = sym (cond-f [] _ (ne_eqb p.count 0 d))

  pub own-no-rows : p.count ≡ 0 → own_rows st r p ≡ []
  unfolding own_rows
  own-no-rows e = cond-t [] _ (eq-eqb p.count 0 e)
