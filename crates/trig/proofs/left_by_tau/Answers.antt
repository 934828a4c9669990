-- `trig::left_by_tau`: the answers to its goals. Assumes nothing.
use Rattle.trig.proofs.Remainder.{left-none, left-more}
use Rattle.trig.proofs.left_by_tau.Goals as goal

pub loop-init : goal.loop-init
loop-init c = left-none _

pub loop-preserved : goal.loop-preserved
loop-preserved c = left-more _ _ c.loop.invariant
