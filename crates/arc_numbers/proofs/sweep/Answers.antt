-- `arc_numbers::sweep`: the answers to its goals. Assumes nothing.
use Rattle.arc_numbers.specs.Arc.{sweep_of}
use Rattle.arc_numbers.proofs.sweep.Goals as goal

pub returns-then-t : goal.returns-then-t
unfolding sweep_of
returns-then-t c = rw (← c.sweep_left-s.ensures, c.if-cw.true, c.if-full.true, c.if-t.true)

pub returns-else-t : goal.returns-else-t
unfolding sweep_of
returns-else-t c = rw (← c.sweep_left-s.ensures, c.if-cw.true, c.if-full.true, c.if-t.false)

pub returns-else-full : goal.returns-else-full
unfolding sweep_of
returns-else-full c = rw (← c.sweep_left-s.ensures, c.if-cw.true, c.if-full.false)

pub returns-else-cw : goal.returns-else-cw
unfolding sweep_of
returns-else-cw c = rw (← c.sweep_left-s.ensures, c.if-cw.false)
