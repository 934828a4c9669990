-- `csv_figures::put_figures`: what holds at each turn of its loops. Assumes nothing.
use Rattle.csv_figures.specs.Figures.{Storing}
use Rattle.csv_figures.proofs.put_figures.Given as goal

abbrev pub invariant-loop-j : goal.invariant-loop-j
invariant-loop-j l = Storing l.initial.out l.n l.k l.v l.out l.rest l.j
