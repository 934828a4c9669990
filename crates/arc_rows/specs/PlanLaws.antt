-- LAWS. What the code plans for an arc block is the definition's answer. Assumes nothing.
use Rattle.std.specs.Prelude.{ℕ, zero, suc, ◌+◌, ◌^◌, ◌<◌, ◌≡◌, refl, Bool, true, false, ◌&&◌, not, cond, List, eqb, Float}
use Rattle.std.proofs.Math.Path.{sym}
use Rattle.std.proofs.Common.{ap}
use Rattle.std.proofs.Math.Option.{Option}
use native.Mathlib.Omega.{arith}
use Rattle.floats.specs.Fill.{length-upto}
use Rattle.layout.specs.Layout.{axis_codes, c_turn}
use Rattle.row_cells.specs.Codes.{plane_u, plane_v}
use Rattle.row_cells.specs.Bits.{has, mask_sum}
use Rattle.row_cells.specs.Row.{number, shown, present_of, axes_of}
use Rattle.row_cells.specs.Masks.{member-small}
use Rattle.row_cells.proofs.RowLaws.{shown-there}
use Rattle.arc_centre.specs.Types.{ends_is}
use Rattle.arc_numbers.specs.Types.{arc_is}
use Rattle.arc_centre.specs.declared.Ends as EndsOf
use Rattle.arc_numbers.specs.declared.Arc as ArcOf
use Rattle.arc_rows.specs.declared.Plan.{Plan}
use Rattle.arc_block.specs.Block.{silent_at, holds, ends_at, centre_at}
use Rattle.arc_rows.specs.Plan.{pass_plan, along_plan, way_rows, Planned}
use Rattle.arc_answer.specs.Arc.{Answer, passed, silent, Ends, Arc, Centre, centred, warned, wanted_of, count_of, arc_of, arc_row, arc_rows}
use Rattle.arc_answer.specs.Arc.{held_axes, from_centre, from_start, arc_answer}

and_assoc : (a b c : Bool) → (a && (b && c)) ≡ ((a && b) && c)
and_assoc true b c = refl
and_assoc false b c = refl

pub held-is : (gs : ℕ) → gs < 2 ^ axis_codes → (plane known : ℕ) (at r : List ℕ) (u v : ℕ) → u ≡ plane_u plane → v ≡ plane_v plane → (n : ℕ)
    → mask_sum (holds gs (present_of r) known u v) n ≡ held_axes (axes_of gs) plane (shown known at) r n
unfolding mask_sum held_axes holds
held-is gs small plane known at r u v u_is v_is zero = refl
held-is gs small plane known at r u v u_is v_is (suc k) =
    rw (held-is gs small plane known at r u v u_is v_is k, member-small gs k small, shown-there known at k, ← u_is, ← v_is)
    (ap (λ (b : Bool). held_axes (axes_of gs) plane (shown known at) r k + cond b (2 ^ k) 0)
    (sym (and_assoc (has gs k) (has (present_of r) k) (not (has known k) && (not (eqb k u) && not (eqb k v))))))

-- ---- the answer by its cases
answer_at : (tol : Float) (gs : List ℕ) (plane : ℕ) (cw : Bool) (known : ℕ) (at r : List ℕ) →
    let u = plane_u plane in
    let v = plane_v plane in
    let e = ends_at r at u v in
    silent_at gs u v r ≡ false → has known u ≡ true → has known v ≡ true
    → arc_answer tol gs plane cw (shown known at) r ≡ from_centre tol gs plane cw (shown known at) r e (centre_at cw e u v r)
unfolding arc_answer silent silent_at shown from_start ends_at
answer_at tol gs plane cw known at r h a b = rw (h, a, b)

module _ (tol : Float) (gs : List ℕ) (plane : ℕ) (cw : Bool) (known : ℕ) (at r : List ℕ) (u v : ℕ) (u_is : u ≡ plane_u plane) (v_is : v ≡ plane_v plane) where
  pub answer-silent : silent_at gs u v r ≡ true → arc_answer tol gs plane cw (shown known at) r ≡ passed 0 r
  unfolding arc_answer silent silent_at
  answer-silent h = rw (← u_is, ← v_is, h)

  pub answer-no-u : silent_at gs u v r ≡ false → has known u ≡ false → arc_answer tol gs plane cw (shown known at) r ≡ passed 1 r
  unfolding arc_answer silent silent_at shown from_start
  answer-no-u h a = rw (← u_is, ← v_is, h, a)

  pub answer-no-v : silent_at gs u v r ≡ false → has known u ≡ true → has known v ≡ false → arc_answer tol gs plane cw (shown known at) r ≡ passed 1 r
  unfolding arc_answer silent silent_at shown from_start
  answer-no-v h a b = rw (← u_is, ← v_is, h, a, b)

  answer-there : silent_at gs u v r ≡ false → has known u ≡ true → has known v ≡ true
      → arc_answer tol gs plane cw (shown known at) r
      ≡ from_centre tol gs plane cw (shown known at) r (ends_at r at u v) (centre_at cw (ends_at r at u v) u v r)
  answer-there h a b = rw (u_is, v_is) (answer_at tol gs plane cw known at r (rw (u_is, v_is) at h) (rw u_is at a) (rw v_is at b))

  pub answer-found : {e : Ends} {m : Centre} → silent_at gs u v r ≡ false → has known u ≡ true → has known v ≡ true
      → e ≡ ends_at r at u v → m ≡ centre_at cw e u v r
      → arc_answer tol gs plane cw (shown known at) r ≡ from_centre tol gs plane cw (shown known at) r e m
  answer-found loud a b ee em = rw (em, ee) (answer-there loud a b)

-- ---- the plans are those of the answer
module _ (gs : List ℕ) (plane : ℕ) (pos : ℕ → Option ℕ) (r : List ℕ) where
  pub pass_planned : {a : Answer} {p : Plan} (w : ℕ) → a ≡ passed w r → p ≡ pass_plan w → Planned gs plane pos r a p
  unfolding passed way_rows
  pass_planned {a} {p} w ea ep = rw (ea, ep) (record { rows = refl; count = refl; warning = refl; wanted = refl; held = refl; least = omega arith })

  -- a plan of one answer is a plan of an equal one
  pub planned_as : {a b : Answer} {p : Plan} → a ≡ b → Planned gs plane pos r b p → Planned gs plane pos r a p
  planned_as e h = rw e h

  along-is : (e : EndsOf.Ends) (c : ArcOf.Arc)
      → Planned gs plane pos r (arc_rows gs plane pos r (ends_is e) (arc_is c)) (along_plan e c (held_axes gs plane pos r axis_codes))
  unfolding arc_rows along_plan way_rows count_of
  along-is e c = record {
    rows = refl;
    count =
        sym
        (length-upto (λ (k : ℕ). arc_row gs plane pos r (ends_is e) (arc_is c) (count_of (wanted_of (arc_is c))) (k + 1)) (count_of (wanted_of (arc_is c))));
    warning = refl;
    wanted = refl;
    held = refl;
    least = omega arith;
  }

  pub along-planned : {a : Answer} {p : Plan} (e : EndsOf.Ends) (c : ArcOf.Arc) {held : ℕ} → a ≡ arc_rows gs plane pos r (ends_is e) (arc_is c)
      → held ≡ held_axes gs plane pos r axis_codes → p ≡ along_plan e c held → Planned gs plane pos r a p
  along-planned {a} {p} e c {held} ea eh ep = rw (ea, ep, eh) (along-is e c)

-- ---- the answer by the centre's cases
module _ (tol : Float) (gs : List ℕ) (plane : ℕ) (cw : Bool) (pos : ℕ → Option ℕ) (r : List ℕ) (e : Ends) where
  pub from-warned : {m : Centre} (n : ℕ) → m ≡ warned n → from_centre tol gs plane cw pos r e m ≡ passed n r
  unfolding from_centre
  from-warned n em = rw em

  pub from_arc : {m : Centre} (cu cv : Float) {turn : Option Float} {c : Arc} → m ≡ centred cu cv → turn ≡ number r c_turn → c ≡ arc_of tol cw e cu cv turn
      → from_centre tol gs plane cw pos r e m ≡ arc_rows gs plane pos r e c
  unfolding from_centre
  from_arc cu cv em et ec = rw (em, ec, et)
