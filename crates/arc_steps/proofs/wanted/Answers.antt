-- `arc_steps::wanted`: the answers to its goals. Assumes nothing.
use Rattle.arc_numbers.specs.Arc.{wanted_of}
use Rattle.arc_steps.proofs.wanted.Goals as goal

pub returns-then-s : goal.returns-then-s
unfolding wanted_of
returns-then-s c = rw (← c.step-s.ensures, c.if-s.true, ← c.abs.ensures) c.ceil_count.ensures

pub returns-else-s : goal.returns-else-s
unfolding wanted_of
returns-else-s c = rw (← c.step-s.ensures, c.if-s.false)
