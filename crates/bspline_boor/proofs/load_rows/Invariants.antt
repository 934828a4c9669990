-- `bspline_boor::load_rows`: what holds at each turn of its loops. Assumes nothing.
use Rattle.bspline_raise.specs.Climb.{Loaded}
use Rattle.bspline_boor.proofs.load_rows.Given as goal

abbrev pub invariant-loop-h : goal.invariant-loop-h
invariant-loop-h l = Loaded l.cw l.d l.n l.k l.ch l.wide l.h
