-- `spline_places::frame::places_of`: the answers to its goals. Assumes nothing.
use mathlib.Core.Path.{◌≡◌}
use native.Mathlib.Omega.{arith}
use Rattle.floats.specs.Fill.{filling-none, filling-more}
use Rattle.layout.specs.Layout.{axis_codes}
use Rattle.spline_places.proofs.frame.places_of.Goals as goal

pub loop-k-init : goal.loop-k-init
loop-k-init c = filling-none

pub bounds-places-k : goal.bounds-places-k
bounds-places-k c = omega (arith, c.loop-k.invariant.same)

pub loop-k-preserved : goal.loop-k-preserved
loop-k-preserved c = filling-more c.loop-k.invariant (omega arith) c.place_of.ensures

pub shape_of-places : goal.shape_of-places
shape_of-places c = c.loop-k.invariant.same

pub returns : goal.returns
returns c = let e : c.loop-k.k ≡ axis_codes = omega arith in rw e at c.loop-k.invariant.is
