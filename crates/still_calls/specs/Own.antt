-- LAWS. The rows of a block of no spline: unchanged, and then unmarked, or an arc's, which a G1 leads. Assumes nothing.
use Prim.Native.Nat.{ℕ, zero, suc, ◌+◌}
use Rattle.std.specs.Prelude.{◌≡◌, Bool, eqb, Float}
use Rattle.std.proofs.Math.Bool.{true, false}
use mathlib.Core.List.{List}
use Rattle.std.proofs.Math.Option.{Option, none, some}
use Rattle.floats.specs.Lists.{upto}
use Rattle.motion.specs.Motion.{g_one, kind_of}
use Rattle.motion.specs.declared.Kind.{Kind}
use Rattle.motion.specs.declared.Kind.TheVariants.{Same, Linear, Clockwise, Counter, Akima, Basis, Cubic, Other, Refused}
use Rattle.row_cells.specs.Row.{motion_of}
use Rattle.arc_answer.specs.Arc.{Answer, silent, passed, arc_answer, from_start, from_centre, arc_rows, arc_row, Centre, centred, warned, Ends, Arc}
use Rattle.saved_state.specs.State.{tolerance, geometric, position}
use Rattle.push_resolve.specs.Blocks.{motion_then, plane_then}
use Rattle.call_answer.specs.Answer.{answer_as, own_answer}
use Rattle.demand_calls.specs.Every.{nil, more}
use Rattle.demand_calls.specs.Laws.{cond_both, every_upto}
use Rattle.demands.specs.RowLengths.{out-long, arc_row-long}
use Rattle.still_calls.specs.Words.{made-leads, made-fit, led-upto, out-unmarked, out-low, Low, Fit, Rows, rows_none, rows-led, rows-unmarked}

passed-rows : (gs : List ℕ) (w : ℕ) (r : List ℕ) → Low r → Rows gs (passed w r).rows
unfolding passed
passed-rows gs w r low = rows-unmarked gs (more (out-long r) nil) (more (out-unmarked r) nil) (more (out-low r low) nil)

-- ---- an arc
module _ (gs : List ℕ) (plane : ℕ) (pos : ℕ → Option ℕ) (r : List ℕ) (e : Ends) (c : Arc) where
  arc_fit : (n k : ℕ) → Fit gs (arc_row gs plane pos r e c n k)
  unfolding arc_row
  arc_fit n k = cond_both (Fit gs) (eqb k n) (made-fit gs r (eqb k 1) true false _) (made-fit gs r (eqb k 1) true true _)

  arc_leads : (n : ℕ) → motion_of (arc_row gs plane pos r e c n 1) ≡ g_one
  unfolding arc_row
  arc_leads n = cond_both (λ (row : List ℕ). motion_of row ≡ g_one) (eqb 1 n) (made-leads gs r false _) (made-leads gs r true _)

  -- as many rows as they are
  turn-rows : (n m : ℕ) → Rows gs (upto (λ (k : ℕ). arc_row gs plane pos r e c n (k + 1)) m)
  unfolding upto
  turn-rows n zero = rows_none gs
  turn-rows n (suc m) =
      rows-led gs
      (every_upto (λ (k : ℕ). arc_row gs plane pos r e c n (k + 1)) (suc m) (λ k l. arc_row-long gs plane pos r e c n (k + 1)))
      (every_upto (λ (k : ℕ). arc_row gs plane pos r e c n (k + 1)) (suc m) (λ k l. arc_fit n (k + 1)))
      (led-upto (λ (k : ℕ). arc_row gs plane pos r e c n (k + 1)) m (arc_leads n))

module _ (tol : Float) (gs : List ℕ) (plane : ℕ) (cw : Bool) (pos : ℕ → Option ℕ) (r : List ℕ) (low : Low r) where
  centre_rows : (e : Ends) (c : Centre) → Rows gs (from_centre tol gs plane cw pos r e c).rows
  unfolding from_centre arc_rows
  centre_rows e (centred cu cv) = turn-rows gs plane pos r e _ _ _
  centre_rows e (warned n) = passed-rows gs n r low

  start-rows : (su sv : Option ℕ) → Rows gs (from_start tol gs plane cw pos r su sv).rows
  unfolding from_start
  start-rows none sv = passed-rows gs 1 r low
  start-rows (some su) none = passed-rows gs 1 r low
  start-rows (some su) (some sv) = centre_rows _ _

  arc-rows : Rows gs (arc_answer tol gs plane cw pos r).rows
  unfolding arc_answer
  arc-rows = cond_both (λ (a : Answer). Rows gs a.rows) (silent gs plane r) (passed-rows gs 0 r low) (start-rows _ _)

-- ---- by its kind
as_rows : (k : Kind) (tol : Float) (gs : List ℕ) (plane : ℕ) (pos : ℕ → Option ℕ) (r : List ℕ) → Low r → Rows gs (answer_as k tol gs plane pos r).rows
unfolding answer_as
as_rows Same tol gs plane pos r low = passed-rows gs 0 r low
as_rows Linear tol gs plane pos r low = passed-rows gs 0 r low
as_rows Clockwise tol gs plane pos r low = arc-rows tol gs plane true pos r low
as_rows Counter tol gs plane pos r low = arc-rows tol gs plane false pos r low
as_rows Akima tol gs plane pos r low = rows_none gs
as_rows Basis tol gs plane pos r low = rows_none gs
as_rows Cubic tol gs plane pos r low = rows_none gs
as_rows Other tol gs plane pos r low = passed-rows gs 0 r low
as_rows Refused tol gs plane pos r low = passed-rows gs 0 r low

pub own-rows : (st r : List ℕ) → Low r → Rows (geometric st) (own_answer st r).rows
unfolding own_answer
own-rows st r = as_rows (kind_of (motion_then st r)) (tolerance st) (geometric st) (plane_then st r) (position st) r
