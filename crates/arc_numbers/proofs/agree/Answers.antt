-- `arc_numbers::agree`: the answers to its goals. Assumes nothing.
use Rattle.arc_numbers.specs.Arc.{agree}
use Rattle.arc_numbers.proofs.agree.Goals as goal

pub returns-then-abs : goal.returns-then-abs
unfolding agree
returns-then-abs c = rw (← c.abs.ensures, c.if-abs.true, ← c.abs-then-abs.ensures)

pub returns-else-abs : goal.returns-else-abs
unfolding agree
returns-else-abs c = rw (← c.abs.ensures, c.if-abs.false)
