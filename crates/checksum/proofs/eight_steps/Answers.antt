-- `checksum::eight_steps`: the answers to its goals. Assumes nothing.
use Rattle.checksum.proofs.Stepping.{steps-none, steps-more}
use Rattle.checksum.proofs.eight_steps.Goals as goal

pub loop-init : goal.loop-init
loop-init c = steps-none _

pub loop-preserved : goal.loop-preserved
loop-preserved c = steps-more _ _ c.loop.invariant c.one_step-sum.ensures
