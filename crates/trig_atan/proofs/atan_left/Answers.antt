-- `trig_atan::atan_left`: the answers to its goals. Assumes nothing.
use Rattle.trig.specs.Trig.{atan_left}
use Rattle.trig_atan.proofs.atan_left.Goals as goal

pub returns-then-y-w : goal.returns-then-y-w
unfolding atan_left
returns-then-y-w c = rw c.if-y-w.true c.atan_from.ensures

pub returns-then-w-y : goal.returns-then-w-y
unfolding atan_left
returns-then-w-y c = rw (c.if-y-w.false, c.if-w-y.true) c.atan_from-then-w-y.ensures

pub returns-else-w-y : goal.returns-else-w-y
unfolding atan_left
returns-else-w-y c = rw (c.if-y-w.false, c.if-w-y.false) c.atan_from-else-w-y.ensures
