-- `spline_emit::+emit_for`: the answers to its goals. Assumes nothing.
use native.Mathlib.Omega.{arith}
use Rattle.spline_emission.specs.SizeLaws.{numbers-few}
use Rattle.spline_emit.proofs.+emit_for.Goals as goal

pub emit_for-requires : goal.emit_for-requires
emit_for-requires t c = (omega arith, (omega (arith, numbers-few c.requires.holds.0), c.requires.holds))
