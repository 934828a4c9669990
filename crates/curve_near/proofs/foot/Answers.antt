-- `curve_near::foot`: the answers to its goals. Assumes nothing.
use mathlib.Core.Path.{refl, ◌∙◌}
use native.Mathlib.Omega.{arith}
use Rattle.curve_metric.specs.Below.{Below}
use Rattle.curve_metric.specs.Metric.{len_to, dot_to}
use Rattle.curve_near.proofs.Sums.{len-gap, dot_more, along-is}
use Rattle.curve_near.proofs.foot.Goals as goal

pub loop-i-init : goal.loop-i-init
unfolding len_to dot_to
loop-i-init c = (refl, refl)

pub gap_at-g-requires : goal.gap_at-g-requires
unfolding Below
gap_at-g-requires c =
    let pre = c.requires in
    record { i_in_bounds = pre.below c.loop-i.i-index c.loop-i-test.true; a_in_bounds = pre.a_in_bounds }

pub loop-i-preserved : goal.loop-i-preserved
loop-i-preserved c =
    let at-loop = c.loop-i in
    let args = c.args in
    let inv = at-loop.invariant in
    let is-gap = c.gap_at-g.ensures in
    (dot_more _ _ _ _ _ is-gap inv.0 c.toward-dot.ensures, len-gap args.p.now _ _ _ _ is-gap inv.1)

pub returns : goal.returns
returns c = c.foot_of.ensures ∙ along-is _ _ _ _ (omega arith) c.loop-i.invariant.0 c.loop-i.invariant.1
