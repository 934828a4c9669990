-- `arc_centre::wide`: the answers to its goals. Assumes nothing.
use Rattle.arc_centre.specs.Centre.{wide_centre}
use Rattle.arc_centre.proofs.wide.Goals as goal

pub returns-then-radius : goal.returns-then-radius
unfolding wide_centre
returns-then-radius c = rw (← c.radius.ensures, c.if-radius.true)

pub returns-then-radius-2 : goal.returns-then-radius-2
unfolding wide_centre
returns-then-radius-2 c = rw (← c.radius.ensures, c.if-radius.false, ← c.radius-2.ensures, c.if-radius-2.true)

pub returns : goal.returns
unfolding wide_centre
returns c = rw (← c.radius.ensures, c.if-radius.false, ← c.radius-2.ensures, c.if-radius-2.false)
