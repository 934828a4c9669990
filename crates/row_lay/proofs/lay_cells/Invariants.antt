-- `row_lay::lay_cells`: what holds at each turn of its loops. Assumes nothing.
use Rattle.row_lay.proofs.Laying.{Laying}
use Rattle.row_lay.proofs.lay_cells.Given as goal

abbrev pub invariant-loop-rest : goal.invariant-loop-rest
invariant-loop-rest l = Laying l.mask l.words l.at l.rest l.initial.rows l.rows

abbrev pub decreases-loop-rest : goal.decreases-loop-rest
decreases-loop-rest l = l.rest
