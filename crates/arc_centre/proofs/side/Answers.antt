-- `arc_centre::side`: the answers to its goals. Assumes nothing.
use Rattle.arc_centre.specs.Centre.{side_of}
use Rattle.arc_centre.proofs.side.Goals as goal

pub returns-then-cw : goal.returns-then-cw
unfolding side_of
returns-then-cw c = rw (c.if-cr.true, c.if-cw.true)

pub returns-else-cw : goal.returns-else-cw
unfolding side_of
returns-else-cw c = rw (c.if-cr.true, c.if-cw.false)

pub returns-then-cw-2 : goal.returns-then-cw-2
unfolding side_of
returns-then-cw-2 c = rw (c.if-cr.false, c.if-cw-2.true)

pub returns-else-cw-2 : goal.returns-else-cw-2
unfolding side_of
returns-else-cw-2 c = rw (c.if-cr.false, c.if-cw-2.false)
