-- `fit_slopes::akima::many_slopes`: what holds at each turn of its loops. Assumes nothing.
use Rattle.floats.specs.Fill.{Filling}
use Rattle.fit_slopes.specs.Slopes.{widened, akima_at}
use Rattle.fit_slopes.specs.AkimaLaws.{Window}
use Rattle.fit_slopes.proofs.akima.many_slopes.Given as goal

abbrev pub invariant-loop-i : goal.invariant-loop-i
invariant-loop-i l = let w = widened l.ts l.ys l.n in Window w l.i l.m1 l.m2 l.m3 × Filling (akima_at w) l.i l.initial.out l.out
