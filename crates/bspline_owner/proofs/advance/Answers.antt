-- `bspline_owner::advance`: the answers to its goals. Assumes nothing.
use mathlib.Core.Path.{◌≡◌, sym, ◌∙◌}
use native.Mathlib.Omega.{arith}
use Rattle.bspline_owner.proofs.Steps.{advance_on, advance_here, advance_end}
use Rattle.bspline_owner.proofs.advance.Goals as goal

pub returns-then-not-greville-t : goal.returns-then-not-greville-t
returns-then-not-greville-t c =
    sym (c.loop-o.invariant ∙ advance_here _ _ _ _ _ c.greville.ensures c.loop-o-test.true c.if-not-greville-t.true)

pub loop-o-preserved : goal.loop-o-preserved
loop-o-preserved c = c.loop-o.invariant ∙ advance_on _ _ _ _ _ c.greville.ensures c.loop-o-test.true c.if-not-greville-t.false

pub returns : goal.returns
returns c =
    let e : c.args.last ≡ c.loop-o.o = omega arith in
    e ∙ sym (c.loop-o.invariant ∙ advance_end _ _ _ _ _ (omega arith))
