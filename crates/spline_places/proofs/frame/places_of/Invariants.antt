-- `spline_places::frame::places_of`: what holds at each turn of its loops. Assumes nothing.
use Prim.Native.Nat.{ℕ}
use Rattle.floats.specs.Fill.{Filling}
use Rattle.spline_channels.specs.Channels.{place_of}
use Rattle.spline_places.proofs.frame.places_of.Given as goal

abbrev pub invariant-loop-k : goal.invariant-loop-k
invariant-loop-k l = Filling (λ (k : ℕ). place_of k l.chans) l.k l.initial.places l.places
