-- `fit_gather::column`: what holds at each turn of its loops. Assumes nothing.
use Prim.Native.Nat.{ℕ, ◌+◌, ◌*◌}
use Rattle.floats.specs.Numbers.{at}
use Rattle.floats.specs.Fill.{Filling}
use Rattle.fit_gather.proofs.column.Given as goal

abbrev pub invariant-loop-w : goal.invariant-loop-w
invariant-loop-w l = Filling (λ (k : ℕ). at l.fps (k * l.ch + l.c)) l.w l.initial.out l.out
