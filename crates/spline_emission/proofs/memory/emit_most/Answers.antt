-- `spline_emission::memory::emit_most`: the answers to its goals. Assumes nothing.
use native.Mathlib.Omega.{arith}
use Rattle.spline_emission.specs.SizeLaws.{numbers-few}
use Rattle.spline_emission.proofs.memory.emit_most.Goals as goal

pub emit_in-requires-clause-numbers : goal.emit_in-requires-clause-numbers
emit_in-requires-clause-numbers c = (numbers-few c.requires.0, (omega arith, omega arith))
