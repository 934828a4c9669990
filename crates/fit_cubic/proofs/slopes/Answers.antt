-- `fit_cubic::slopes`: the answers to its goals. Assumes nothing.
use mathlib.Core.Path.{◌≡◌}
use native.Mathlib.Omega.{arith}
use Rattle.floats.specs.Lists.{Agrees}
use Rattle.floats.specs.Fill.{filling-none, filling-more}
use Rattle.fit_cubic.proofs.Cubics.{slope_in, slope_end}
use Rattle.fit_cubic.proofs.slopes.Goals as goal

pub loop-i-init : goal.loop-i-init
loop-i-init c = filling-none

pub loop-i-preserved : goal.loop-i-preserved
unfolding Agrees
loop-i-preserved c =
    let agrees = c.requires.agrees in
    let slope = slope_in _ _ _ _ (omega arith) c.secant_at.ensures c.step_at.ensures (agrees _ (omega arith)) (agrees _ (omega arith)) in
    filling-more c.loop-i.invariant (omega arith) slope

pub returns : goal.returns
unfolding Agrees
returns c =
    let agrees = c.requires.agrees in
    let e : c.loop-i.i ≡ c.args.m = omega arith in
    let slope = slope_end _ _ _ c.secant_at-2.ensures c.step_at-2.ensures (agrees _ (omega arith)) (agrees _ (omega arith)) in
    (filling-more (rw e at c.loop-i.invariant) (omega arith) slope).is
