-- `arc_centre::radius`: the answers to its goals. Assumes nothing.
use Rattle.arc_centre.specs.Centre.{radius}
use Rattle.arc_centre.proofs.radius.Goals as goal

pub returns : goal.returns
unfolding radius
returns c = c.root.ensures
