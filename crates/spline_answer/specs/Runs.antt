-- DEFINITIONS. The points that a spline's curve gives each block (section 5 of the rules). Assumes nothing.
use Rattle.std.specs.Prelude.{List, ◌∷◌, map, Float}
use Rattle.floats.specs.Numbers.{f1}
use Rattle.curve_drawing.specs.Runs.{curve_runs}
use Rattle.spline_channels.specs.Channels.{Spline, point_rows, channels}
use Rattle.spline_metric.specs.Metric.{metric_of}
use Rattle.spline_points.specs.Points.{start_point, points_from, weight_of}

-- the run of points of each point block; none where the curve gives it no sample
unfoldable pub runs_of : Spline → List (List (List Float))
runs_of s =
    let cs = channels s in
    let rs = point_rows s in
    let p = start_point s cs in
    let pts = p ∷ points_from cs p rs in
    curve_runs s.motion s.power (metric_of cs) s.tol pts (f1 ∷ map weight_of rs)
