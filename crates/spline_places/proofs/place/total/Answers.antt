-- `spline_places::place::total`: the answers to its goals. Assumes nothing.
use mathlib.Core.Path.{◌≡◌, refl, ap, ◌∙◌}
use native.Mathlib.Omega.{arith}
use lib.ListN.{length}
use Rattle.spline_channels.proofs.ChannelLaws.{block-length}
use Rattle.spline_places.specs.Sizes.{place_to}
use Rattle.spline_places.specs.SizeLaws.{place-step, place-room}
use Rattle.spline_places.proofs.place.total.Goals as goal

pub loop-i-init : goal.loop-i-init
unfolding place_to
loop-i-init c = refl

pub has_point-requires : goal.has_point-requires
has_point-requires c = ap length c.block.ensures ∙ block-length _ _ (omega arith)

pub after_block-place-requires : goal.after_block-place-requires
after_block-place-requires c =
    let d = c in
    let both = place-room _ _ _ _ _ d.requires.few (omega arith) (omega arith) d.loop-i.invariant in
    record { points_in_bounds = both.0; rows_le_most_rows = both.1 }

pub loop-i-preserved : goal.loop-i-preserved
loop-i-preserved c =
    let d = c in
    place-step _ _ _ _ _ _ _ _ c.after_block-place.ensures c.has_point.ensures d.block.ensures d.loop-i.invariant

pub returns : goal.returns
returns c = let e : c.loop-i.i ≡ c.args.held = omega arith in rw e at c.loop-i.invariant
