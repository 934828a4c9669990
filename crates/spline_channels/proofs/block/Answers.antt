-- `spline_channels::block`: the answers to its goals. Assumes nothing.
use Rattle.spline_channels.proofs.ChannelLaws.{block-is}
use Rattle.spline_channels.proofs.block.Goals as goal

pub returns : goal.returns
returns c = block-is c.args.store.now c.args.i
