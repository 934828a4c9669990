-- `spline_metric::all_places`: the answers to its goals. Assumes nothing.
use mathlib.Core.Path.{◌≡◌}
use native.Mathlib.Omega.{arith}
use Rattle.floats.specs.Lists.{upto}
use Rattle.spline_channels.specs.Append.{appended_one, appended_none, appended_upto}
use Rattle.spline_metric.proofs.all_places.Goals as goal

pub loop-i-init : goal.loop-i-init
unfolding upto
loop-i-init c = appended_none

pub bounds-places-i : goal.bounds-places-i
bounds-places-i c = omega (arith, c.loop-i.invariant.same)

pub loop-i-preserved : goal.loop-i-preserved
loop-i-preserved c = appended_upto _ _ c.loop-i.invariant (appended_one (omega (arith, c.loop-i.invariant.same)))

pub returns : goal.returns
returns c = let e : c.loop-i.i ≡ c.args.n = omega arith in rw e at c.loop-i.invariant
