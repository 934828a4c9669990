-- `fit_prepare::kept::keep`: the answers to its goals. Assumes nothing.
use native.Mathlib.Omega.{arith}
use lib.ListN.{length-set}
use Rattle.fit_prepare.proofs.Keeps.{keep-first, keep-more, keep-room, keep-end}
use Rattle.fit_prepare.proofs.kept.keep.Goals as goal

pub loop-i-init : goal.loop-i-init
loop-i-init c = keep-first c.args.ts.now c.args.out.now (omega arith)

pub judge-m-requires-clause-m_nonzero : goal.judge-m-requires-clause-m_nonzero
judge-m-requires-clause-m_nonzero c =
    let r = keep-room _ _ (omega arith) c.loop-i.invariant in
    (r.0, (r.1.0, (omega arith, omega (arith, c.loop-i.invariant.same, length-set c.args.out.now 0 0))))

pub judge-m-requires-clause-m_bound : goal.judge-m-requires-clause-m_bound
judge-m-requires-clause-m_bound c = (keep-room _ _ (omega arith) c.loop-i.invariant).1.1

pub loop-i-preserved : goal.loop-i-preserved
loop-i-preserved c =
    keep-more _ _ (omega arith) (omega (arith, length-set c.args.out.now 0 0)) c.loop-i.invariant c.judge-m.ensures

pub returns : goal.returns
returns c = keep-end _ _ _ c.args.out.now (omega arith) c.loop-i.invariant
