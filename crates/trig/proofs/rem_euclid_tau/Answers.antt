-- `trig::rem_euclid_tau`: the answers to its goals. Assumes nothing.
use Rattle.trig.proofs.rem_euclid_tau.Goals as goal

pub returns-then-r : goal.returns-then-r
returns-then-r c = rw (← c.rem_tau-r.ensures, c.if-r.true)

pub returns-else-r : goal.returns-else-r
returns-else-r c = rw (← c.rem_tau-r.ensures, c.if-r.false)
