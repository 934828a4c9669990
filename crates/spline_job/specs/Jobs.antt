-- CONTRACTS. The curve to draw of what an emission is asked. Assumes nothing.
use Rattle.motion.specs.Motion.{kind_of}
use Rattle.curve_drawing.specs.declared.Drawing.{Drawing}
use Rattle.spline_job.specs.declared.Curve.{Curve}
use Rattle.spline_job.specs.declared.Job.{Job}

-- the curve to draw
abbrev pub drawing_of : Job → Curve → Drawing
drawing_of job g = record { kind = kind_of job.motion; degree = job.degree; n = g.n; ch = g.ch; tol = job.tol }
