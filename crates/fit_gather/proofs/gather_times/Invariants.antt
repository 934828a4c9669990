-- `fit_gather::gather_times`: what holds at each turn of its loops. Assumes nothing.
use Rattle.floats.specs.Fill.{Filling}
use Rattle.fit_knots.specs.Prepare.{time_at}
use Rattle.fit_gather.proofs.gather_times.Given as goal

abbrev pub invariant-loop-k : goal.invariant-loop-k
invariant-loop-k l = Filling (time_at l.ts l.ks) l.k l.initial.out l.out
