-- `bspline_owner::advance`: what holds at each turn of its loops. Assumes nothing.
use mathlib.Core.Path.{◌≡◌}
use Prim.Native.Nat.{◌-◌}
use Rattle.bspline_tables.specs.Tables.{advanced}
use Rattle.bspline_owner.proofs.advance.Given as goal

abbrev pub invariant-loop-o : goal.invariant-loop-o
invariant-loop-o l = advanced l.ks l.p l.t (l.last - l.from) l.from ≡ advanced l.ks l.p l.t (l.last - l.o) l.o
