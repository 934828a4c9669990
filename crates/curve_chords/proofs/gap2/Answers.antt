-- `curve_chords::gap2`: the answers to its goals. Assumes nothing.
use mathlib.Core.Path.{refl}
use native.Mathlib.Omega.{arith}
use Rattle.curve_metric.specs.Below.{Below}
use Rattle.curve_metric.specs.Metric.{len_to}
use Rattle.curve_chords.proofs.Chords.{len_more}
use Rattle.curve_chords.proofs.gap2.Goals as goal

pub loop-i-init : goal.loop-i-init
unfolding len_to
loop-i-init c = refl

pub offset_bounds-b-i : goal.offset_bounds-b-i
unfolding Below
offset_bounds-b-i c = omega (arith, c.requires.below c.loop-i.i-index c.loop-i-test.true)

pub bounds-b-i : goal.bounds-b-i
unfolding Below
bounds-b-i c = omega (arith, c.requires.below c.loop-i.i-index c.loop-i-test.true)

pub offset_bounds-a-i : goal.offset_bounds-a-i
unfolding Below
offset_bounds-a-i c = omega (arith, c.requires.below c.loop-i.i-index c.loop-i-test.true)

pub bounds-a-i : goal.bounds-a-i
unfolding Below
bounds-a-i c = c.requires.below c.loop-i.i-index c.loop-i-test.true

pub loop-i-preserved : goal.loop-i-preserved
loop-i-preserved c = len_more _ _ _ _ c.loop-i.invariant
