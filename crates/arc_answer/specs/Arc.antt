-- DEFINITIONS. The group of one arc block. Assumes nothing.
use Rattle.std.specs.Prelude.{ℕ, zero, suc, ◌+◌, ◌^◌, Bool, ◌&&◌, ◌||◌, not, cond, List, [], ◌∷◌, ltb, eqb, Float}
use Rattle.std.proofs.Math.Option.{Option, none, some, get_or}
use Rattle.floats.specs.Numbers.{num}
use Rattle.floats.specs.Lists.{upto, member, is_some}
pub use Rattle.arc_numbers.specs.Arc.{most_arc_rows, Centre, centred, warned, Ends, Arc, angle_at, radius_at}
unfoldable pub use Rattle.arc_numbers.specs.Arc.{side_of, cr_centre, centre_of, radius, wide_centre, agree, sweep_left, sweep_of, turned, arc_of}
unfoldable pub use Rattle.arc_numbers.specs.Arc.{step_of, wanted_of, count_of}
unfoldable pub use Rattle.arc_answer.specs.Samples.{ramp, last_cell, mid_cell, arc_row}
use Rattle.layout.specs.Layout.{c_cr, c_turn, axis_codes}
use Rattle.row_cells.specs.Codes.{plane_u, plane_v, offset_of}
use Rattle.row_cells.specs.Row.{cell, number, present_of, has_point, out_row}
use Rattle.row_cells.specs.Bits.{has}

-- what a block of no spline adds to a call: its rows, the warning, with warning 6 the wanted count, the held axes
pub record Answer : Type 0 where
  pub rows : List (List ℕ)
  pub warning : ℕ
  pub wanted : ℕ
  pub held : ℕ

-- the row unchanged, with a warning or 0
unfoldable pub passed : ℕ → List ℕ → Answer
passed warning r = record { rows = out_row r ∷ []; warning = warning; wanted = 0; held = 0 }

-- a block that names no geometric axis, no offset of the plane and no CR
unfoldable pub silent : List ℕ → ℕ → List ℕ → Bool
silent gs plane r =
    not (has_point gs r
    || (has (present_of r) (offset_of (plane_u plane)) || (has (present_of r) (offset_of (plane_v plane)) || has (present_of r) c_cr)))

-- the axes that stay at their end, a bit each
unfoldable pub held_axes : List ℕ → ℕ → (ℕ → Option ℕ) → List ℕ → ℕ → ℕ
held_axes gs plane pos r zero = 0
held_axes gs plane pos r (suc k) =
    held_axes gs plane pos r k
    + cond (member k gs && (has (present_of r) k && (not (is_some (pos k)) && (not (eqb k (plane_u plane)) && not (eqb k (plane_v plane)))))) (2 ^ k) 0

unfoldable pub arc_rows : List ℕ → ℕ → (ℕ → Option ℕ) → List ℕ → Ends → Arc → Answer
arc_rows gs plane pos r e c =
    let wanted = wanted_of c in
    let n = count_of wanted in
    record {
      rows = upto (λ (k : ℕ). arc_row gs plane pos r e c n (k + 1)) n;
      warning = cond (ltb most_arc_rows wanted) 6 0;
      wanted = cond (ltb most_arc_rows wanted) wanted 0;
      held = held_axes gs plane pos r axis_codes;
    }

-- the rows of the arc, or the block unchanged with the warning
unfoldable pub from_centre : Float → List ℕ → ℕ → Bool → (ℕ → Option ℕ) → List ℕ → Ends → Centre → Answer
from_centre tol gs plane cw pos r e (centred cu cv) = arc_rows gs plane pos r e (arc_of tol cw e cu cv (number r c_turn))
from_centre tol gs plane cw pos r e (warned n) = passed n r

-- warning 1 where the start of a plane axis is not known
unfoldable pub from_start : Float → List ℕ → ℕ → Bool → (ℕ → Option ℕ) → List ℕ → Option ℕ → Option ℕ → Answer
from_start tol gs plane cw pos r none sv = passed 1 r
from_start tol gs plane cw pos r (some su) none = passed 1 r
from_start tol gs plane cw pos r (some su) (some sv) =
    let u = plane_u plane in
    let v = plane_v plane in
    let e : Ends = record { su = num su; sv = num sv; eu = num (get_or (cell r u) su); ev = num (get_or (cell r v) sv) } in
    from_centre tol gs plane cw pos r e (wide_centre e (centre_of cw e (number r (offset_of u)) (number r (offset_of v)) (number r c_cr)))

-- the group of an arc block: geometric axes gs, plane and direction in force, positions before it
unfoldable pub arc_answer : Float → List ℕ → ℕ → Bool → (ℕ → Option ℕ) → List ℕ → Answer
arc_answer tol gs plane cw pos r =
    cond (silent gs plane r) (passed 0 r) (from_start tol gs plane cw pos r (pos (plane_u plane)) (pos (plane_v plane)))
