-- `arc_block::has_point`: the answers to its goals. Assumes nothing.
use Rattle.arc_block.proofs.Points.{point-is}
use Rattle.arc_block.proofs.has_point.Goals as goal

pub returns : goal.returns
returns c = point-is c.args.gs c.args.row.now c.requires.1
