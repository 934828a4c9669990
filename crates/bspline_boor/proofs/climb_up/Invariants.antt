-- `bspline_boor::climb_up`: what holds at each turn of its loops. Assumes nothing.
use Rattle.bspline_raise.specs.Climb.{Climbed}
use Rattle.bspline_boor.proofs.climb_up.Given as goal

abbrev pub invariant-loop-r : goal.invariant-loop-r
invariant-loop-r l = Climbed l.ks l.u l.p l.k l.wide l.initial.d l.d l.r
