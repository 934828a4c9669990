-- `bspline_tables::fill_knots`: what holds at each turn of its loops. Assumes nothing.
use Prim.Native.Nat.{◌-◌, min}
use Rattle.floats.specs.Numbers.{of_nat}
use Rattle.floats.specs.Fill.{Filling}
use Rattle.bspline_tables.proofs.fill_knots.Given as goal

abbrev pub invariant-loop-i : goal.invariant-loop-i
invariant-loop-i l = Filling (λ i. of_nat (min (i - l.p) l.spans)) l.i l.initial.ks l.ks
