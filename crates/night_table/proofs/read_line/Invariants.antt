-- `night_table::read_line`: what holds at each turn of its loops. Assumes nothing.
use Rattle.night_table.proofs.Taking.{Reading}
use Rattle.night_table.proofs.read_line.Given as goal

abbrev pub invariant-loop-k : goal.invariant-loop-k
invariant-loop-k l = Reading l.text l.initial.numbers l.at l.k l.numbers
