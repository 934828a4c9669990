-- `fit_gather::gather_points`: what holds at each turn of its loops. Assumes nothing.
use Rattle.fit_knots.specs.Blocks.{Blocks}
use Rattle.fit_knots.specs.Prepare.{number_at}
use Rattle.fit_gather.proofs.gather_points.Given as goal

abbrev pub invariant-loop-w : goal.invariant-loop-w
invariant-loop-w l = Blocks (number_at l.pts l.ch l.ks) l.ch l.w l.out
