-- `checksum::with_byte`: the answers to its goals. Assumes nothing.
use Rattle.checksum.specs.Checksum.{with_byte}
use Rattle.checksum.proofs.with_byte.Goals as goal

pub returns : goal.returns
unfolding with_byte
returns c = c.eight_steps.ensures
