-- `fit_gather::slopes_in`: the answers to its goals. Assumes nothing.
use Rattle.fit_knots.specs.Blocks.{blocks_more}
use Rattle.fit_gather.proofs.slopes_in.Goals as goal

pub loop-c-preserved : goal.loop-c-preserved
loop-c-preserved g c = blocks_more c.loop-c.invariant c.channel_slopes.ensures
