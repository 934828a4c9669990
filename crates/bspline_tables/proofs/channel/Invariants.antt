-- `bspline_tables::channel`: what holds at each turn of its loops. Assumes nothing.
use Rattle.bspline_tables.specs.Tables.{control_at}
use Rattle.floats.specs.Fill.{Filling}
use Rattle.bspline_tables.proofs.channel.Given as goal

abbrev pub invariant-loop-i : goal.invariant-loop-i
invariant-loop-i l = Filling (control_at l.pts l.ws l.ch l.c) l.i l.initial.out l.out
