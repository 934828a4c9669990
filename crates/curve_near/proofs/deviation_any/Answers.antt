-- `curve_near::deviation_any`: the answers to its goals. Assumes nothing.
use mathlib.Core.Path.{refl}
use native.Mathlib.Omega.{arith}
use Rattle.curve_metric.specs.Below.{Below}
use Rattle.curve_metric.specs.Metric.{dist_to}
use Rattle.curve_near.proofs.Sums.{dist_more, deviation_is}
use Rattle.curve_near.proofs.deviation_any.Goals as goal

pub loop-i-init : goal.loop-i-init
unfolding dist_to
loop-i-init c = refl

pub gap_at-requires : goal.gap_at-requires
unfolding Below
gap_at-requires c =
    let pre = c.requires in
    record { i_in_bounds = pre.below c.loop-i.i-index c.loop-i-test.true; a_in_bounds = pre.a_in_bounds }

pub loop-i-preserved : goal.loop-i-preserved
loop-i-preserved c =
    let inv = c.loop-i.invariant in
    dist_more _ _ _ _ _ c.gap_at.ensures _ inv c.missed-sum.ensures

pub returns : goal.returns
returns c =
    let at-loop = c in
    deviation_is _ _ _ _ (omega arith) at-loop.foot-t.ensures at-loop.loop-i.invariant
