-- LAWS. A block's own rows are not too many. Assumes nothing.
use Rattle.std.specs.Prelude.{ℕ, ◌≤◌, Bool, true, false, List, length, Float}
use Rattle.std.proofs.Math.Option.{Option, none, some}
use Rattle.std.proofs.Common.{arith}
use Rattle.floats.specs.Fill.{length-upto}
use Rattle.motion.specs.Motion.{kind_of}
use Rattle.motion.specs.declared.Kind.{Kind}
use Rattle.motion.specs.declared.Kind.TheVariants.{Same, Linear, Clockwise, Counter, Akima, Basis, Cubic, Other, Refused}
use Rattle.row_cells.specs.Codes.{plane_u, plane_v}
use Rattle.floats.specs.Truth.{by_bit}
use Rattle.arc_answer.specs.Arc.{Ends, Centre, centred, warned, passed, silent, arc_rows, count_of, from_centre, from_start, arc_answer}
use Rattle.saved_state.specs.State.{tolerance, geometric, position}
use Rattle.push_resolve.specs.Blocks.{motion_then, plane_then}
use Rattle.call_answer.specs.Answer.{answer_as, own_answer}

-- 4.18: an arc has at most 100,000 rows
few_centre : (tol : Float) (gs : List ℕ) (plane : ℕ) (cw : Bool) (pos : ℕ → Option ℕ) (r : List ℕ) (d : Ends) (m : Centre)
    → length (from_centre tol gs plane cw pos r d m).rows ≤ 100000
unfolding from_centre arc_rows count_of passed
few_centre tol gs plane cw pos r d (centred cu cv) = rw (length-upto) (omega arith)
few_centre tol gs plane cw pos r d (warned n) = omega arith

few-start : (tol : Float) (gs : List ℕ) (plane : ℕ) (cw : Bool) (pos : ℕ → Option ℕ) (r : List ℕ) (a b : Option ℕ)
    → length (from_start tol gs plane cw pos r a b).rows ≤ 100000
unfolding from_start passed
few-start tol gs plane cw pos r none b = omega arith
few-start tol gs plane cw pos r (some x) none = omega arith
few-start tol gs plane cw pos r (some x) (some y) = few_centre tol gs plane cw pos r _ _

few_arc : (tol : Float) (gs : List ℕ) (plane : ℕ) (cw : Bool) (pos : ℕ → Option ℕ) (r : List ℕ) → length (arc_answer tol gs plane cw pos r).rows ≤ 100000
unfolding arc_answer passed
few_arc tol gs plane cw pos r =
    by_bit (silent gs plane r) (λ b. rw b (omega arith)) (λ b. rw b (few-start tol gs plane cw pos r (pos (plane_u plane)) (pos (plane_v plane))))

few_as : (k : Kind) (tol : Float) (gs : List ℕ) (plane : ℕ) (pos : ℕ → Option ℕ) (r : List ℕ) → length (answer_as k tol gs plane pos r).rows ≤ 100000
unfolding answer_as passed
few_as Same tol gs plane pos r = omega arith
few_as Linear tol gs plane pos r = omega arith
few_as Clockwise tol gs plane pos r = few_arc tol gs plane true pos r
few_as Counter tol gs plane pos r = few_arc tol gs plane false pos r
few_as Akima tol gs plane pos r = omega arith
few_as Basis tol gs plane pos r = omega arith
few_as Cubic tol gs plane pos r = omega arith
few_as Other tol gs plane pos r = omega arith
few_as Refused tol gs plane pos r = omega arith

pub few-own : (st r : List ℕ) → length (own_answer st r).rows ≤ 100000
unfolding own_answer
few-own st r = few_as (kind_of (motion_then st r)) (tolerance st) (geometric st) (plane_then st r) (position st) r
