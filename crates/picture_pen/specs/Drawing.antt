-- CONTRACTS. A row is drawn. Assumes nothing.
use Rattle.std.specs.Prelude.{ℕ, ◌<◌, ◌≡◌, List}
use Rattle.layout.specs.Layout.{cells}
use Rattle.csv_figures.specs.Out.{Wrote}
use Rattle.picture_span.specs.declared.Plane.{Plane}
use Rattle.picture_pen.specs.declared.Pen.{Pen}
use Rattle.picture_pen.specs.declared.Drawn.{Drawn}
use Rattle.picture_pen.specs.Pen.{pen_after, row_drawn}

-- the axes of a picture have cells
pub record PlaneOk (plane : Plane) : Type 0 where
  pub across : plane.across < cells
  pub up : plane.up < cells

pub record Drew (was : Pen) (row : List ℕ) (plane : Plane) (o : List ℕ) (n : ℕ) (o' : List ℕ) (r : Drawn) : Type 0 where
  pub pen : r.pen ≡ pen_after was row plane
  pub text : Wrote o n (row_drawn was row plane) o' r.at
