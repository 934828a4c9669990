-- `trig_atan::atan_right`: the answers to its goals. Assumes nothing.
use Rattle.trig.specs.Trig.{atan_right}
use Rattle.trig_atan.proofs.atan_right.Goals as goal

pub returns-then-y-x : goal.returns-then-y-x
unfolding atan_right
returns-then-y-x c = rw c.if-y-x.true c.atan_from.ensures

pub returns-then-x-y : goal.returns-then-x-y
unfolding atan_right
returns-then-x-y c = rw (c.if-y-x.false, c.if-x-y.true) c.atan_from-then-x-y.ensures

pub returns-else-x-y : goal.returns-else-x-y
unfolding atan_right
returns-else-x-y c = rw (c.if-y-x.false, c.if-x-y.false) c.atan_from-else-x-y.ensures
