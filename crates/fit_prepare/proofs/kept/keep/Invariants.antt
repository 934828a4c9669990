-- `fit_prepare::kept::keep`: what holds at each turn of its loops. Assumes nothing.
use Prim.Native.Nat.{◌-◌}
use Rattle.fit_knots.specs.Kept.{Kept}
use Rattle.fit_prepare.proofs.kept.keep.Given as goal

abbrev pub invariant-loop-i : goal.invariant-loop-i
invariant-loop-i l = Kept l.ts (l.i - 1) l.initial.out l.out l.m
