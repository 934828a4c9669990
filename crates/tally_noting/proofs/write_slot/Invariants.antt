-- `tally_noting::write_slot`: what holds at each turn of its loop. Assumes nothing.
use Rattle.floats.specs.Splice.{Splicing}
use Rattle.tally_slot.specs.Slots.{slot_after}
use Rattle.tally_noting.proofs.write_slot.Given as goal

abbrev pub invariant-loop-k : goal.invariant-loop-k
invariant-loop-k l = Splicing (slot_after l.initial.tally l.start l.known l.job l.c) l.start l.k l.initial.tally l.tally
