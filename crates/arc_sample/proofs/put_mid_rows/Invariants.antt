-- `arc_sample::put_mid_rows`: what holds at each turn of its loops. Assumes nothing.
use Rattle.arc_sample.specs.Rowing.{Rowing}
use Rattle.arc_made.specs.Drawn.{mids}
use Rattle.arc_sample.proofs.put_mid_rows.Given as goal

abbrev pub invariant-loop-j : goal.invariant-loop-j
invariant-loop-j l = Rowing (mids l.d l.row l.starts l.spans l.n) l.at l.j l.initial.rows l.rows l.place
