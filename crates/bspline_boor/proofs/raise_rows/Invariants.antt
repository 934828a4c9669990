-- `bspline_boor::raise_rows`: what holds at each turn of its loops. Assumes nothing.
use Prim.Native.Nat.{◌-◌}
use Rattle.bspline_tables.specs.Basis.{share}
use Rattle.bspline_raise.specs.Climb.{Level}
use Rattle.bspline_boor.proofs.raise_rows.Given as goal

abbrev pub invariant-loop-h : goal.invariant-loop-h
invariant-loop-h l = Level l.initial.d l.d l.wide l.h (λ j. share l.ks l.u l.p l.k l.r (l.p - j))
