-- `night_reading::came`: the answers to its goals. Assumes nothing.
use native.Mathlib.Omega.{arith}
use Rattle.night_reading.proofs.Going.{none_came}
use Rattle.night_reading.proofs.came.Goals as goal

pub returns : goal.returns
returns c = none_came c.args.s c.args.t _ (omega arith)
