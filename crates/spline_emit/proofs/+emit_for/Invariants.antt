-- `spline_emit::+emit_for`: what holds at each turn of its loops. Assumes nothing.
use Rattle.spline_emit.proofs.+emit_for.Given as goal

abbrev pub decreases-emit_for : goal.decreases-emit_for
decreases-emit_for l = l.size
