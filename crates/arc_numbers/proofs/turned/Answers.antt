-- `arc_numbers::turned`: the answers to its goals. Assumes nothing.
use Rattle.arc_numbers.specs.Arc.{turned}
use Rattle.arc_numbers.proofs.turned.Goals as goal

pub returns-then-cw : goal.returns-then-cw
unfolding turned
returns-then-cw c =
    rw (c.in-Some.is, c.if-cw.true, c.nearest_u64_to_f64-n.ensures, c.half_up_count.ensures)

pub returns-else-cw : goal.returns-else-cw
unfolding turned
returns-else-cw c =
    rw (c.in-Some.is, c.if-cw.false, c.nearest_u64_to_f64-n.ensures, c.half_up_count.ensures)

pub returns-in-None : goal.returns-in-None
unfolding turned
returns-in-None c = rw c.in-None.is
