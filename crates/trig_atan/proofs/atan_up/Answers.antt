-- `trig_atan::atan_up`: the answers to its goals. Assumes nothing.
use Rattle.trig.specs.Trig.{atan_up}
use Rattle.trig_atan.proofs.atan_up.Goals as goal

pub returns-then-x : goal.returns-then-x
unfolding atan_up
returns-then-x c = rw c.if-x.true c.atan_left.ensures

pub returns-else-x : goal.returns-else-x
unfolding atan_up
returns-else-x c = rw c.if-x.false c.atan_right.ensures
