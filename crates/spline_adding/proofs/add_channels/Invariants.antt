-- `spline_adding::add_channels`: what holds at each turn of its loops. Assumes nothing.
use lib.ListN.{take}
use Rattle.floats.specs.Lists.{keep}
use Rattle.spline_channels.specs.Gathers.{Appended, is_new}
use Rattle.spline_adding.proofs.add_channels.Given as goal

abbrev pub invariant-loop-k : goal.invariant-loop-k
invariant-loop-k l = Appended (keep (is_new l.present (take l.n l.initial.chans)) (take l.k-index l.axes)) l.n l.initial.chans l.chans l.m
