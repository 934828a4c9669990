-- `fit_forward::forward`: the answers to its goals. Assumes nothing.
use mathlib.Core.Path.{refl}
use native.Mathlib.Omega.{arith}
use native.Mathlib.Numerals.{add-one}
use lib.ListN.{length-set}
use Rattle.fit_slopes.specs.Slopes.{diag, rhs}
use Rattle.floats.specs.Fill.{filling-first, filling-more}
use Rattle.fit_forward.proofs.Eliminated.{sup-more, diag-more, rhs-more}
use Rattle.fit_forward.proofs.forward.Goals as goal

pub loop-i-init : goal.loop-i-init
unfolding diag rhs
loop-i-init c =
    let a = c.args in
    record {
      pivot = refl;
      right = refl;
      above = refl;
      diags = filling-first a.d.now (omega arith) refl;
      rights = filling-first a.r.now (omega arith) refl;
    }

pub loop-i-preserved : goal.loop-i-preserved
loop-i-preserved c =
    let inv = c.loop-i.invariant in
    let h = c.step_at-h0.ensures in
    let g = c.step_at-h1.ensures in
    let ed = diag-more _ (add-one _) h g inv.pivot inv.above in
    let er = rhs-more _ _ (add-one _) h inv.pivot c.secant_at-in-loop-i.ensures c.secant_at.ensures inv.right in
    record {
      pivot = ed;
      right = er;
      above = sup-more c.args.ts.now (add-one c.loop-i.i) g;
      diags = filling-more inv.diags (simp length-set (omega arith)) ed;
      rights = filling-more inv.rights (simp length-set (omega arith)) er;
    }
