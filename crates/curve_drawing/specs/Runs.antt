-- DEFINITIONS. The run of points of each block with a point, of each kind of spline (rules 5.8 to 5.25). Assumes nothing.
use Rattle.std.specs.Prelude.{ℕ, Bool, cond, List, take, Float}
use Rattle.floats.specs.Lists.{rows_of}
use Rattle.motion.specs.Motion.{is_basis, is_cubic, basis_kind, cubic_kind}
use Rattle.fit_knots.specs.Fit.{fit_runs}
use Rattle.bspline_tables.specs.Basis.{basis_runs}
use Rattle.curve_walk.specs.declared.Form.{Form}
use Rattle.curve_walk.specs.declared.Shape.{Shape}
use Rattle.curve_drawing.specs.declared.Drawing.{Drawing}

-- the points pts begin with the curve start, ws are their weights, ms the metric's channels
abbrev pub runs_by : Bool → Bool → ℕ → List ℕ → Float → List (List Float) → List Float → List (List (List Float))
runs_by basis cubic sd ms tol pts ws =
    let bas = basis_runs sd ms tol pts ws in
    let fit = fit_runs cubic ms tol pts in
    cond basis bas fit

unfoldable pub curve_runs : ℕ → ℕ → List ℕ → Float → List (List Float) → List Float → List (List (List Float))
curve_runs motion = runs_by (is_basis motion) (is_cubic motion)

-- the same of a drawing whose points' numbers lie one after another
unfoldable pub drawn_runs : Drawing → List ℕ → List Float → List Float → List (List (List Float))
drawn_runs d ms pts ws =
    runs_by (basis_kind d.kind) (cubic_kind d.kind) d.degree ms d.tol (rows_of pts d.ch d.n) (take d.n ws)

-- the curve beside its tables
abbrev pub shape_of : Drawing → Form → Shape
shape_of d f = record { n = d.n; ch = d.ch; tol = d.tol; form = f }
