-- DEFINITIONS. The group of each block of a whole sequence, from the sequence alone: rule 8.7. Assumes nothing.
use Rattle.std.specs.Prelude.{ℕ, cond, List, [], ◌∷◌, ◌++◌, map, length, get_or}
use Rattle.floats.specs.Numbers.{num}
use Rattle.motion.specs.Motion.{is_spline, kind_of}
use Rattle.row_cells.specs.Codes.{geometric_of}
use Rattle.saved_state.specs.State.{plain_degree}
use Rattle.row_cells.specs.Row.{out_row}
use Rattle.spline_answer.specs.Words.{Spline, spline_groups}
use Rattle.call_answer.specs.Answer.{answer_as}
use Rattle.demand_calls.specs.Runs.{Event, seed, block, closed}
use Rattle.demand_groups.specs.Written.{Piece}
use Rattle.demand_standing.specs.Standing.{Standing, at_first, goes_on, with_block, with_seed, with_close, together, degree_from, last_point}

-- the spline of all its blocks rs, absent cells zero
unfoldable pub spline_with : ℕ → List ℕ → Standing → List (List ℕ) → Spline
spline_with tol gs s rs =
    record { motion = s.motion; power = degree_from plain_degree rs; tol = num tol; axes = gs; start = s.start; blocks = map out_row rs }

-- what block r is made into: by the spline of the blocks before it and to come, or by its own motion
unfoldable pub piece_of : ℕ → List ℕ → Standing → List ℕ → List Event → Piece
piece_of tol gs s r es =
    let now = with_block gs s r in
    let more = together now.motion es in
    let curve = get_or (spline_groups (spline_with tol gs now (now.curve ++ more))) (length (goes_on s r)) [] in
    let own = (answer_as (kind_of now.motion) (num tol) gs now.plane s.place r).rows in
    record {
      block = r;
      last = last_point gs now.motion r more;
      rows = cond (is_spline now.motion) curve own;
    }

unfoldable pub pieces_from : ℕ → List ℕ → Standing → List Event → List Piece
pieces_from tol gs s [] = []
pieces_from tol gs s (seed c x ∷ es) = pieces_from tol gs (with_seed gs s c x) es
pieces_from tol gs s (block r ∷ es) = piece_of tol gs s r es ∷ pieces_from tol gs (with_block gs s r) es
pieces_from tol gs s (closed ∷ es) = pieces_from tol gs (with_close s) es

-- one piece for each block of a sequence from a fresh start
unfoldable pub pieces : ℕ → List ℕ → List Event → List Piece
pieces tol axes es = pieces_from tol (geometric_of axes) at_first es
