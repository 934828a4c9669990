-- DEFINITIONS. What stands before an event, from the events alone: no calls, no words of a state or a store; rules 3.1, 3.2, 3.11 to 3.15. Assumes nothing.
use Rattle.std.specs.Prelude.{ℕ, Bool, cond, not, ◌&&◌, ◌||◌, List, [], ◌∷◌, ◌++◌, length, eqb}
use Rattle.std.proofs.Math.Option.{Option, none, some}
use Rattle.floats.specs.Lists.{member, any_of}
use Rattle.layout.specs.Layout.{c_sd}
use Rattle.motion.specs.Motion.{g_one, is_spline, is_basis}
use Rattle.row_cells.specs.Codes.{plane_xy}
use Rattle.row_cells.specs.Row.{cell, number, motion_of, plane_of, present_of, has_point}
use Rattle.row_cells.specs.Bits.{has}
use Rattle.push_resolve.specs.Blocks.{or_now}
use Rattle.push_state.specs.Pushed.{degree_with}
use Rattle.demand_calls.specs.Runs.{Event, seed, block, closed}

-- what stands before an event: the positions, motion and plane in force; of a spline still open its blocks so far and its start
pub record Standing : Type 0 where
  pub place : ℕ → Option ℕ
  pub motion : ℕ
  pub plane : ℕ
  pub curve : List (List ℕ)
  pub start : ℕ → Option ℕ

-- 3.1: as a fresh state stands
unfoldable pub at_first : Standing
at_first = record { place = λ (k : ℕ). none; motion = g_one; plane = plane_xy; curve = []; start = λ (k : ℕ). none }

-- 3.13: positions take the geometric cells present; 2.21: and a seed of a geometric axis
unfoldable pub moved_by_block : List ℕ → (ℕ → Option ℕ) → List ℕ → ℕ → Option ℕ
moved_by_block gs pos r k = cond (member k gs && has (present_of r) k) (cell r k) (pos k)

unfoldable pub moved_by_seed : List ℕ → (ℕ → Option ℕ) → ℕ → ℕ → ℕ → Option ℕ
moved_by_seed gs pos c x k = cond (member k gs && eqb c k) (some x) (pos k)

-- 3.2: the motion in force
unfoldable pub motion_with : Standing → List ℕ → ℕ
motion_with s r = or_now (motion_of r) s.motion

-- the blocks of the open spline that block r goes on: none where it changes the motion
unfoldable pub goes_on : Standing → List ℕ → List (List ℕ)
goes_on s r = cond (eqb (motion_with s r) s.motion) s.curve []

-- 3.11: the first held block saves the positions as the curve start
unfoldable pub with_block : List ℕ → Standing → List ℕ → Standing
with_block gs s r =
    record {
      place = moved_by_block gs s.place r;
      motion = motion_with s r;
      plane = or_now (plane_of r) s.plane;
      curve = cond (is_spline (motion_with s r)) (goes_on s r ++ (r ∷ [])) [];
      start = cond (eqb (length (goes_on s r)) 0) s.place s.start;
    }

unfoldable pub with_seed : List ℕ → Standing → ℕ → ℕ → Standing
with_seed gs s c x = record { place = moved_by_seed gs s.place c x; motion = s.motion; plane = s.plane; curve = s.curve; start = s.start }

-- 3.15: a close ends the open spline; its start is not read again
unfoldable pub with_close : Standing → Standing
with_close s = record { place = s.place; motion = s.motion; plane = s.plane; curve = []; start = s.start }

-- 3.12: degree d, or the one that the last SD of the blocks sets
unfoldable pub degree_from : ℕ → List (List ℕ) → ℕ
degree_from d [] = d
degree_from d (r ∷ rs) = degree_from (degree_with d (number r c_sd)) rs

-- the blocks to come of a spline under motion m: up to another motion cell, or a close
unfoldable pub together : ℕ → List Event → List (List ℕ)
together m [] = []
together m (seed c x ∷ es) = together m es
together m (block r ∷ es) = let more = r ∷ together m es in cond (eqb (motion_of r) 0 || eqb (motion_of r) m) more []
together m (closed ∷ es) = []

-- 8.9: block r is the last point of a B-spline under motion m, with the blocks `more` to come
unfoldable pub last_point : List ℕ → ℕ → List ℕ → List (List ℕ) → Bool
last_point gs m r more = is_basis m && (has_point gs r && not (any_of (has_point gs) more))
