-- `number_copy::copy`: what holds at each turn of its loop. Assumes nothing.
use Rattle.floats.specs.Numbers.{at}
use Rattle.floats.specs.Fill.{Filling}
use Rattle.number_copy.proofs.copy.Given as goal

abbrev pub invariant-loop-i : goal.invariant-loop-i
invariant-loop-i l = Filling (at l.from) l.i l.initial.to l.to
