-- `fit_slopes::akima::many_slopes`: the answers to its goals. Assumes nothing.
use mathlib.Core.Path.{◌∙◌}
use native.Mathlib.Omega.{arith}
use Rattle.floats.specs.Fill.{filling-none, filling-more}
use Rattle.fit_slopes.specs.AkimaLaws.{window_more, akima-of}
use Rattle.fit_slopes.proofs.akima.many_slopes.Goals as goal

pub loop-i-init : goal.loop-i-init
loop-i-init c =
    (record { first = c.widened_at-m1.ensures; second = c.widened_at-m2.ensures; third = c.widened_at-m3.ensures }, filling-none)

pub loop-i-preserved : goal.loop-i-preserved
loop-i-preserved c =
    let w = c.loop-i.invariant.0 in
    let m4 = c.widened_at-m4.ensures in
    let a = c.akima_of.ensures ∙ akima-of _ _ w.first w.second w.third m4 in
    (window_more w m4, filling-more c.loop-i.invariant.1 (omega arith) a)
