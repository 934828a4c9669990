-- `fit_cubic::slopes`: what holds at each turn of its loops. Assumes nothing.
use Rattle.fit_slopes.specs.Slopes.{bent}
use Rattle.floats.specs.Fill.{Filling}
use Rattle.fit_cubic.proofs.slopes.Given as goal

abbrev pub invariant-loop-i : goal.invariant-loop-i
invariant-loop-i l = Filling (bent l.ts l.ys l.m) l.i l.initial.out l.out
