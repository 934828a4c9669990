-- `spline_metric::xyz_places`: the answers to its goals. Assumes nothing.
use mathlib.Core.Path.{◌≡◌, sym}
use Prim.Native.Nat.{ℕ}
use native.Mathlib.Omega.{arith}
use lib.ListN.{length}
use Rattle.floats.specs.Lists.{upto, keep}
use Rattle.spline_metric.specs.Xyz.{is_xyz}
use Rattle.spline_channels.specs.Append.{appended_none, appended_then, appended_as}
use Rattle.spline_channels.specs.Keeps.{keep-upto-most, keep-upto}
use Rattle.spline_metric.proofs.xyz_places.Goals as goal

pub loop-i-init : goal.loop-i-init
unfolding upto keep
loop-i-init c = appended_none

pub add_place-m-requires : goal.add_place-m-requires
add_place-m-requires c =
    let d = c.loop-i in
    let cs = c.args.chans.now in
    (omega arith, omega (arith, d.invariant.same, d.invariant.count, keep-upto-most (is_xyz cs) (λ (i : ℕ). i) d.i))

pub loop-i-preserved : goal.loop-i-preserved
loop-i-preserved c =
    let more = appended_then c.loop-i.invariant c.add_place-m.ensures in
    appended_as (sym (keep-upto _ _ _)) more

pub shape_of-places : goal.shape_of-places
shape_of-places c = c.loop-i.invariant.same

pub returns : goal.returns
returns c = let e : c.loop-i.i ≡ length c.args.chans.now = omega arith in rw e at c.loop-i.invariant
