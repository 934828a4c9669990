-- `tally_call::marks_of`: what holds at each turn of its loop. Assumes nothing.
use Rattle.tally_call.specs.CallLaws.{Marked}
use Rattle.tally_call.proofs.marks_of.Given as goal

abbrev pub invariant-loop-i : goal.invariant-loop-i
invariant-loop-i l = Marked l.rows l.i l.r
