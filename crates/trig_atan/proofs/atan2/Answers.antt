-- `trig_atan::atan2`: the answers to its goals. Assumes nothing.
use mathlib.Core.Path.{ap}
use lib.Ieee.{neg}
use Rattle.trig.specs.Trig.{atan2_steps}
use Rattle.trig_atan.proofs.atan2.Goals as goal

pub returns-then-y-2 : goal.returns-then-y-2
unfolding atan2_steps
returns-then-y-2 c = rw (c.if-y.true, c.if-x.true, c.if-y-2.true)

pub returns-else-y-2 : goal.returns-else-y-2
unfolding atan2_steps
returns-else-y-2 c = rw (c.if-y.true, c.if-x.true, c.if-y-2.false)

pub returns-else-x : goal.returns-else-x
unfolding atan2_steps
returns-else-x c = rw (c.if-y.true, c.if-x.false)

pub returns-then-y-3 : goal.returns-then-y-3
unfolding atan2_steps
returns-then-y-3 c = rw (c.if-y.false, c.if-y-3.true) (ap neg c.atan_up.ensures)

pub returns-else-y-3 : goal.returns-else-y-3
unfolding atan2_steps
returns-else-y-3 c = rw (c.if-y.false, c.if-y-3.false) c.atan_up-else-y-3.ensures
