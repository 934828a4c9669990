-- LAWS. A row draws no more than a move has room for. Assumes nothing.
use Rattle.std.specs.Prelude.{ℕ, ◌+◌, ◌≤◌, Bool, true, false, cond, List, [], length}
use Rattle.std.proofs.Common.{arith}
use Rattle.picture_path.specs.PathText.{move_room, move_text}
use Rattle.picture_path.specs.PathLaws.{move_short}
use Rattle.picture_span.specs.declared.Plane.{Plane}
use Rattle.picture_pen.specs.declared.Pen.{Pen}
use Rattle.picture_pen.specs.declared.Drawn.{Drawn}
use Rattle.picture_pen.specs.Pen.{moves_in, pen_after, point_of, row_drawn}
use Rattle.picture_pen.specs.Drawing.{Drew}

row-short : (pen : Pen) (row : List ℕ) (plane : Plane) → length (row_drawn pen row plane) ≤ move_room
unfolding row_drawn
row-short pen row plane = go (moves_in pen row plane) (pen_after pen row plane)
  where
    go : (b : Bool) (then : Pen)
        → length {A = ℕ} (cond b (move_text pen.path then.path.letter (point_of pen) (point_of then)) []) ≤ move_room
    go true then = move_short pen.path then.path.letter (point_of pen) (point_of then)
    go false then = omega arith

pub drew_short : {pen : Pen} {row : List ℕ} {plane : Plane} {o o' : List ℕ} {n : ℕ} {r : Drawn} → Drew pen row plane o n o' r → r.at ≤ n + move_room
drew_short {pen} {row} {plane} d = omega (arith, d.text.next, row-short pen row plane)
