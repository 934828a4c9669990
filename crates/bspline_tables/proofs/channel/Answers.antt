-- `bspline_tables::channel`: the answers to its goals. Assumes nothing.
use mathlib.Core.Path.{refl}
use native.Mathlib.Omega.{arith}
use Rattle.floats.specs.Fill.{filling-none, filling-more}
use Rattle.bspline_tables.proofs.Controls.{cell-is}
use Rattle.bspline_tables.proofs.channel.Goals as goal

pub loop-i-init : goal.loop-i-init
loop-i-init c = filling-none

pub loop-i-preserved : goal.loop-i-preserved
loop-i-preserved c = filling-more c.loop-i.invariant (omega arith) (cell-is _ _ _ _ _ _ c.requires.c_lt_ch.0 refl)
