-- `tally_slot::figures_fit`: what holds at each turn of its loop. Assumes nothing.
use Rattle.std.proofs.Common.{◌≡◌, true}
use Rattle.floats.specs.Lists.{all}
use Rattle.tally_slot.specs.Slots.{figure_fits}
use Rattle.tally_slot.proofs.figures_fit.Given as goal

abbrev pub invariant-loop-k : goal.invariant-loop-k
invariant-loop-k l = all l.k (figure_fits l.tally l.start l.known l.c) ≡ true
