-- `spline_metric::all_places`: what holds at each turn of its loops. Assumes nothing.
use Prim.Native.Nat.{ℕ}
use Rattle.floats.specs.Lists.{upto}
use Rattle.spline_channels.specs.Gathers.{Appended}
use Rattle.spline_metric.proofs.all_places.Given as goal

abbrev pub invariant-loop-i : goal.invariant-loop-i
invariant-loop-i l = Appended (upto (λ (i : ℕ). i) l.i) 0 l.initial.places l.places l.i
