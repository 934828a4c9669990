-- `spline_rows::put_run`: what holds at each turn of its loops. Assumes nothing.
use Rattle.spline_rows.proofs.Spreading.{RunFrom}
use Rattle.spline_rows.proofs.put_run.Given as goal

abbrev pub invariant-loop-t : goal.invariant-loop-t
invariant-loop-t l = RunFrom l.o l.places l.place l.c l.row l.t l.initial.rows l.rows
