-- LAWS. Every row that a call writes has a row's words, whatever motion it comes from. Assumes nothing.
use Rattle.std.specs.Prelude.{ℕ, ◌+◌, ◌≡◌, refl, Bool, true, false, List, [], length, get_or, eqb, Float}
use Rattle.std.proofs.lemmas.Bool.{false≢true}
use Rattle.std.proofs.Math.Option.{Option, none, some}
use Rattle.floats.specs.Lists.{flatten}
use Rattle.motion.specs.Motion.{spline_kind}
use Rattle.motion.specs.declared.Kind.{Kind}
use Rattle.motion.specs.declared.Kind.TheVariants.{Same, Linear, Clockwise, Counter, Akima, Basis, Cubic, Other, Refused}
use Rattle.row_cells.specs.Row.{out_row, has_point}
use Rattle.row_cells.proofs.RowLaws.{length-out}
use Rattle.row_made.specs.MadeLaws.{length-made}
use Rattle.demand_calls.specs.Every.{Every, nil, more}
use Rattle.demand_calls.specs.Laws.{cond_both, every_append, every_upto, every_flatten}
use Rattle.demand_calls.specs.PlaceLaws.{Long}
use Rattle.row_made.specs.Made.{made_row}
use Rattle.arc_answer.specs.Arc.{Answer, silent, passed, arc_answer, from_start, from_centre, arc_rows, arc_row, Centre, centred, warned, Ends, Arc}
use Rattle.spline_answer.specs.Words.{Spline, spline_groups, held_group, point_group}
use Rattle.saved_state.specs.State.{held}
use Rattle.call_answer.specs.Answer.{answer_as, own_answer}
use Rattle.push_resolve.specs.Blocks.{emits}
use Rattle.spline_answer.specs.Held.{emission}
use Rattle.call_answer.specs.Push.{push_rows}
use Rattle.call_answer.specs.Close.{close_rows}

pub out-long : (r : List ℕ) → Long (out_row r)
out-long r = record { words = length-out r }

made-long : (gs r : List ℕ) (first : Bool) (motion : ℕ) (marked : Bool) (f : ℕ → Option ℕ) → Long (made_row gs r first motion marked f)
made-long gs r first motion marked f = record { words = length-made gs r first motion marked f }

-- ---- the rows of a block of no spline
passed-long : (w : ℕ) (r : List ℕ) → Every Long (passed w r).rows
unfolding passed
passed-long w r = more (out-long r) nil

pub arc_row-long : (gs : List ℕ) (plane : ℕ) (pos : ℕ → Option ℕ) (r : List ℕ) (e : Ends) (c : Arc) (n k : ℕ) → Long (arc_row gs plane pos r e c n k)
unfolding arc_row
arc_row-long gs plane pos r e c n k = cond_both Long (eqb k n) (made-long gs r _ _ _ _) (made-long gs r _ _ _ _)

module _ (tol : Float) (gs : List ℕ) (plane : ℕ) (cw : Bool) (pos : ℕ → Option ℕ) (r : List ℕ) where
  centre_long : (e : Ends) (c : Centre) → Every Long (from_centre tol gs plane cw pos r e c).rows
  unfolding from_centre arc_rows
  centre_long e (centred cu cv) = every_upto _ _ (λ k l. arc_row-long gs plane pos r e _ _ (k + 1))
  centre_long e (warned n) = passed-long n r

  start-long : (su sv : Option ℕ) → Every Long (from_start tol gs plane cw pos r su sv).rows
  unfolding from_start
  start-long none sv = passed-long 1 r
  start-long (some su) none = passed-long 1 r
  start-long (some su) (some sv) = centre_long _ _

  arc_long : Every Long (arc_answer tol gs plane cw pos r).rows
  unfolding arc_answer
  arc_long = cond_both (λ (a : Answer). Every Long a.rows) (silent gs plane r) (passed-long 0 r) (start-long _ _)

own-long : (m : Kind) (tol : Float) (gs : List ℕ) (plane : ℕ) (pos : ℕ → Option ℕ) (r : List ℕ) → Every Long (answer_as m tol gs plane pos r).rows
unfolding answer_as
own-long Same tol gs plane pos r = passed-long 0 r
own-long Linear tol gs plane pos r = passed-long 0 r
own-long Clockwise tol gs plane pos r = arc_long tol gs plane true pos r
own-long Counter tol gs plane pos r = arc_long tol gs plane false pos r
own-long Akima tol gs plane pos r = nil
own-long Basis tol gs plane pos r = nil
own-long Cubic tol gs plane pos r = nil
own-long Other tol gs plane pos r = passed-long 0 r
own-long Refused tol gs plane pos r = passed-long 0 r

-- ---- the rows of a spline
point-long : (s : Spline) (cs : List ℕ) (n j : ℕ) (run : List (List Float)) (r : List ℕ) → Every Long (point_group s cs n j run r)
unfolding point_group
point-long s cs n j run r =
    cond_both (Every Long) (eqb (length run) 0) (more (made-long s.axes r _ _ _ _) nil) (every_upto _ _ (λ i l. made-long s.axes r _ _ _ _))

held-long : (s : Spline) (runs : List (List (List Float))) (i : ℕ) → Every Long (held_group s runs i)
unfolding held_group
held-long s runs i = cond_both (Every Long) (has_point s.axes (get_or s.blocks i [])) (point-long s _ _ _ _ _) (more (out-long _) nil)

spline-long : (s : Spline) → Every Long (flatten (spline_groups s))
unfolding spline_groups
spline-long s = every_flatten (every_upto _ _ (λ i l. held-long s _ i))

-- ---- the rows of a push and of a close
pub emission-long : (st store : List ℕ) → Every Long (emission st store)
unfolding emission
emission-long st store = spline-long _

pub push_rows-long : (st store r : List ℕ) → Every Long (push_rows st store r)
unfolding push_rows own_answer
push_rows-long st store r =
    cond_both (Every Long) (emits st r) (every_append (emission-long st store) (own-long _ _ _ _ _ r)) (own-long _ _ _ _ _ r)

pub close_rows-long : (st store : List ℕ) → Every Long (close_rows st store)
unfolding close_rows
close_rows-long st store = cond_both (Every Long) (eqb (held st) 0) nil (emission-long st store)

-- ---- a block of a spline has no row of its own
pub spline_as : (k : Kind) → spline_kind k ≡ true → (tol : Float) (gs : List ℕ) (plane : ℕ) (pos : ℕ → Option ℕ) (r : List ℕ)
    → (answer_as k tol gs plane pos r).rows ≡ []
unfolding answer_as
spline_as Same y tol gs plane pos r = absurd (false≢true y)
spline_as Linear y tol gs plane pos r = absurd (false≢true y)
spline_as Clockwise y tol gs plane pos r = absurd (false≢true y)
spline_as Counter y tol gs plane pos r = absurd (false≢true y)
spline_as Akima y tol gs plane pos r = refl
spline_as Basis y tol gs plane pos r = refl
spline_as Cubic y tol gs plane pos r = refl
spline_as Other y tol gs plane pos r = absurd (false≢true y)
spline_as Refused y tol gs plane pos r = absurd (false≢true y)
