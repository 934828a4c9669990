-- `fit_gather::column`: the answers to its goals. Assumes nothing.
use mathlib.Core.Path.{refl}
use native.Mathlib.Omega.{arith}
use Rattle.floats.specs.Fill.{filling-none, filling-more}
use Rattle.fit_gather.proofs.column.Goals as goal

pub loop-w-init : goal.loop-w-init
loop-w-init c = filling-none

pub loop-w-preserved : goal.loop-w-preserved
loop-w-preserved c = filling-more c.loop-w.invariant (omega arith) refl
