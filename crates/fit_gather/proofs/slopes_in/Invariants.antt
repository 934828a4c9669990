-- `fit_gather::slopes_in`: what holds at each turn of its loops. Assumes nothing.
use Rattle.fit_knots.specs.Blocks.{Blocks}
use Rattle.fit_knots.specs.Prepare.{channel_at}
use Rattle.fit_gather.proofs.slopes_in.Given as goal

abbrev pub invariant-loop-c : goal.invariant-loop-c
invariant-loop-c g l = Blocks (channel_at l.cubic l.fts l.fps l.ch l.m) l.m l.c l.slopes
