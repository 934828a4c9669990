-- `arc_numbers::sweep_left`: the answers to its goals. Assumes nothing.
use Rattle.arc_numbers.specs.Arc.{sweep_left}
use Rattle.arc_numbers.proofs.sweep_left.Goals as goal

pub returns-then-full : goal.returns-then-full
unfolding sweep_left
returns-then-full c = rw (← c.rem_euclid_tau-s.ensures, c.if-s.true, c.if-full.true)

pub returns-else-full : goal.returns-else-full
unfolding sweep_left
returns-else-full c = rw (← c.rem_euclid_tau-s.ensures, c.if-s.true, c.if-full.false)

pub returns-else-s : goal.returns-else-s
unfolding sweep_left
returns-else-s c = rw (← c.rem_euclid_tau-s.ensures, c.if-s.false)
