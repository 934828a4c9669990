-- DEFINITIONS. The motion and the mark of a row of a held block, as the code writes them. Assumes nothing.
use Rattle.std.specs.Prelude.{ℕ, ◌+◌, Bool, cond, not, ◌&&◌, ◌||◌, eqb}
use Rattle.motion.specs.Motion.{g_one}
use Rattle.spline_places.specs.declared.frame.Frame.{Frame}

unfoldable pub raw_mark : Frame → ℕ → ℕ → ℕ → Bool
raw_mark o j c t = not (eqb (t + 1) c) || (o.basis && not (eqb (j + 1) o.points))

unfoldable pub raw_motion : ℕ → ℕ
raw_motion j = cond (eqb j 0) g_one 0
