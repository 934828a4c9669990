-- `arc_ends::ends`: the answers to its goals. Assumes nothing.
use Rattle.arc_block.specs.Block.{ends_at}
use Rattle.arc_ends.proofs.ends.Goals as goal

pub returns : goal.returns
unfolding ends_at
returns c = rw (c.of_bits.ensures, c.of_bits-2.ensures, c.end_on.ensures, c.end_on-2.ensures)
