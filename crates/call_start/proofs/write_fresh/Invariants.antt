-- `call_start::write_fresh`: what holds at each turn of its loop. Assumes nothing.
use Rattle.floats.specs.Fill.{Filling}
use Rattle.call_start.specs.Start.{fresh_word}
use Rattle.call_start.proofs.write_fresh.Given as goal

abbrev pub invariant-loop-i : goal.invariant-loop-i
invariant-loop-i l = Filling (fresh_word l.tolerance l.axes) l.i l.initial.state l.state
