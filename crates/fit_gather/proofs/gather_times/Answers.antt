-- `fit_gather::gather_times`: the answers to its goals. Assumes nothing.
use mathlib.Core.Path.{refl}
use native.Mathlib.Omega.{arith}
use Rattle.curve_metric.specs.Below.{Below}
use Rattle.floats.specs.Fill.{filling-none, filling-more}
use Rattle.fit_gather.proofs.gather_times.Goals as goal

pub loop-k-init : goal.loop-k-init
loop-k-init c = filling-none

pub offset_bounds-ts-i : goal.offset_bounds-ts-i
unfolding Below
offset_bounds-ts-i c = omega (arith, c.requires.below c.loop-k.k c.loop-k-test.true)

pub bounds-ts-i : goal.bounds-ts-i
unfolding Below
bounds-ts-i c = omega (arith, c.requires.below c.loop-k.k c.loop-k-test.true)

pub loop-k-preserved : goal.loop-k-preserved
loop-k-preserved c = filling-more c.loop-k.invariant (omega arith) refl
