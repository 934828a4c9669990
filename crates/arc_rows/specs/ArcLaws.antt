-- LAWS. An arc block's answer: its cases, how many its rows are, their marks and heads. Assumes nothing.
use Rattle.std.specs.Prelude.{ℕ, ◌+◌, ◌≤◌, ◌≡◌, refl, Bool, cond, List, eqb, Float}
use Rattle.std.proofs.Math.Option.{Option, none, some}
use native.Mathlib.Omega.{arith}
use Rattle.std.proofs.Math.ListN.{length}
use Rattle.floats.specs.Fill.{length-upto}
use Rattle.motion.specs.Motion.{g_one}
use Rattle.row_cells.specs.Codes.{plane_u, plane_v}
use Rattle.row_cells.specs.Row.{motion_of, plane_of, mark_of, carry_of, row_of}
use Rattle.row_made.specs.Made.{made_row}
use Rattle.floats.specs.Truth.{by_bit}
use Rattle.arc_answer.specs.Arc.{most_arc_rows, Answer, passed, silent, Ends, Arc, Centre, centred, warned, wanted_of, count_of}
use Rattle.arc_answer.specs.Arc.{arc_row, arc_rows, from_centre, from_start, arc_answer}

-- ---- the answer is the block passed on, or the rows of an arc
module _ (tol : Float) (gs : List ℕ) (plane : ℕ) (cw : Bool) (pos : ℕ → Option ℕ) (r : List ℕ) (P : Answer → Type 0)
    (pass : (w : ℕ) → P (passed w r)) (along : (E : Ends) (c : Arc) → P (arc_rows gs plane pos r E c)) where
  centre_cases : (E : Ends) (C : Centre) → P (from_centre tol gs plane cw pos r E C)
  unfolding from_centre
  centre_cases E (centred cu cv) = along E _
  centre_cases E (warned n) = pass n

  start_cases : (su sv : Option ℕ) → P (from_start tol gs plane cw pos r su sv)
  unfolding from_start
  start_cases none sv = pass 1
  start_cases (some su) none = pass 1
  start_cases (some su) (some sv) = centre_cases _ _

  pub arc_cases : P (arc_answer tol gs plane cw pos r)
  unfolding arc_answer
  arc_cases = by_bit (silent gs plane r) (λ b. rw b (pass 0)) (λ b. rw b (start_cases (pos (plane_u plane)) (pos (plane_v plane))))

-- ---- its rows: never none, at most 100,000
module _ (tol : Float) (gs : List ℕ) (plane : ℕ) (cw : Bool) (pos : ℕ → Option ℕ) (r : List ℕ) where
  along-count : (E : Ends) (c : Arc) → length (arc_rows gs plane pos r E c).rows ≡ count_of (wanted_of c)
  unfolding arc_rows
  along-count E c = length-upto (λ (k : ℕ). arc_row gs plane pos r E c (count_of (wanted_of c)) (k + 1)) (count_of (wanted_of c))

  few : (w : ℕ) → (1 ≤ count_of w) × (count_of w ≤ most_arc_rows)
  unfolding count_of
  few w = omega arith

  pub arc_count : (1 ≤ length (arc_answer tol gs plane cw pos r).rows) × (length (arc_answer tol gs plane cw pos r).rows ≤ most_arc_rows)
  unfolding passed
  arc_count =
      arc_cases tol gs plane cw pos r (λ (a : Answer). (1 ≤ length a.rows) × (length a.rows ≤ most_arc_rows))
      (λ w. omega arith)
      (λ E c. rw (along-count E c) (few (wanted_of c)))

-- ---- one row of an arc
module _ (gs : List ℕ) (plane : ℕ) (pos : ℕ → Option ℕ) (r : List ℕ) (E : Ends) (c : Arc) (n : ℕ) where
  -- only the last row has no mark
  pub arc_mark : (k : ℕ) → mark_of (arc_row gs plane pos r E c n k) ≡ cond (eqb k n) 0 1
  unfolding arc_row made_row row_of
  arc_mark k = by_bit (eqb k n) (λ b. rw b (by_bit (eqb k 1) (λ d. rw d) (λ d. rw d))) (λ b. rw b (by_bit (eqb k 1) (λ d. rw d) (λ d. rw d)))

  -- motion, plane and carry stand on the first row alone
  pub arc_head : (k : ℕ) →
      let a = arc_row gs plane pos r E c n k in
      (motion_of a ≡ cond (eqb k 1) g_one 0) × ((plane_of a ≡ cond (eqb k 1) (plane_of r) 0) × (carry_of a ≡ cond (eqb k 1) (carry_of r) 0))
  unfolding arc_row made_row row_of
  arc_head k = by_bit (eqb k n)
      (λ b. rw b (by_bit (eqb k 1) (λ d. rw d (refl, (refl, refl))) (λ d. rw d (refl, (refl, refl)))))
      (λ b. rw b (by_bit (eqb k 1) (λ d. rw d (refl, (refl, refl))) (λ d. rw d (refl, (refl, refl)))))
