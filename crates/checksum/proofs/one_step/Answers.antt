-- `checksum::one_step`: the answers to its goals. Assumes nothing.
use Rattle.checksum.proofs.Stepping.{step-bare, step-top}
use Rattle.checksum.proofs.one_step.Goals as goal

pub returns-then-s-eq0 : goal.returns-then-s-eq0
returns-then-s-eq0 c = step-bare c.args.s c.if-s-eq0.true

pub returns : goal.returns
returns c = step-top c.args.s c.if-s-eq0.false
