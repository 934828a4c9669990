-- `spline_metric::xyz_places`: what holds at each turn of its loops. Assumes nothing.
use Prim.Native.Nat.{ℕ}
use Rattle.floats.specs.Lists.{upto, keep}
use Rattle.spline_channels.specs.Gathers.{Appended}
use Rattle.spline_metric.specs.Xyz.{is_xyz}
use Rattle.spline_metric.proofs.xyz_places.Given as goal

abbrev pub invariant-loop-i : goal.invariant-loop-i
invariant-loop-i l = Appended (keep (is_xyz l.chans) (upto (λ (i : ℕ). i) l.i)) 0 l.initial.places l.places l.m
