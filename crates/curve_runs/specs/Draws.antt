-- LAWS. The runs of a drawing are those of its motion word. Assumes nothing.
use Rattle.std.specs.Prelude.{◌≡◌, List, ℕ, take, Float}
use Rattle.floats.specs.Lists.{rows_of}
use Rattle.motion.specs.Motion.{kind_of, is_basis, is_cubic}
use Rattle.curve_drawing.specs.declared.Drawing.{Drawing}
use Rattle.curve_drawing.specs.Runs.{curve_runs, drawn_runs}

pub drawn_as : (motion : ℕ) (d : Drawing) (ms : List ℕ) (pts ws : List Float) → d.kind ≡ kind_of motion
    → drawn_runs d ms pts ws ≡ curve_runs motion d.degree ms d.tol (rows_of pts d.ch d.n) (take d.n ws)
unfolding drawn_runs curve_runs is_basis is_cubic
drawn_as motion d ms pts ws e = rw e
