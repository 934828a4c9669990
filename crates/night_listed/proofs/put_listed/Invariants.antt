-- `night_listed::put_listed`: what holds at each turn of its loops. Assumes nothing.
use Rattle.night_listed.proofs.Walking.{Walked}
use Rattle.night_listed.proofs.put_listed.Given as goal

abbrev pub invariant-loop-i : goal.invariant-loop-i
invariant-loop-i l = Walked l.job l.number l.motion l.rows l.count l.warning l.initial.out l.n l.i l.out l.now
