-- `spline_sample::own_mask`: the answers to its goals. Assumes nothing.
use Rattle.spline_sample.proofs.Made.{own-none, own-both}
use Rattle.spline_sample.proofs.own_mask.Goals as goal

pub returns-then-o : goal.returns-then-o
returns-then-o c = own-none _ _ c.if-o.true

pub returns-else-o : goal.returns-else-o
returns-else-o c = own-both _ _ c.requires.0 c.if-o.false
