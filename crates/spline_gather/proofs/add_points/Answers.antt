-- `spline_gather::add_points`: the answers to its goals. Assumes nothing.
use mathlib.Core.Path.{ap, ◌∙◌}
use native.Mathlib.Omega.{arith}
use lib.ListN.{length}
use Rattle.spline_channels.proofs.ChannelLaws.{block-length}
use Rattle.spline_points.specs.Curve.{points_none, weights-none, points-room, points-step, weights-step}
use Rattle.spline_gather.proofs.add_points.Goals as goal

pub loop-i-init : goal.loop-i-init
loop-i-init c = (points_none _ _ _ _, weights-none _ _ _)

pub add_point-n-requires : goal.add_point-n-requires
add_point-n-requires c =
    let inv = c.loop-i.invariant in
    let pre = c.requires in
    let long = ap length c.block.ensures ∙ block-length _ _ (omega arith) in
    record {
      row_len = (long, pre.row_words_in_bounds.1.1);
      le_n = points-room _ _ _ _ _ _ pre.chans_len_bound.1.0 pre.chans_len_bound.1.1 _ _ _ _
          (omega arith) inv.0 inv.1;
    }

pub loop-i-preserved : goal.loop-i-preserved
loop-i-preserved c =
    let d = c in
    let inv = d.loop-i.invariant in
    let pre = d.requires in
    let put = c.add_point-n.ensures in
    let row = d.block.ensures in
    let step = points-step _ _ _ _ _ _ pre.chans_len_bound.1.0 pre.chans_len_bound.1.1 _ _ _ _ _ _ _ (omega arith) row inv.0 inv.1 put.point_put in
    (step, weights-step _ _ _ _ _ _ _ _ _ row inv.1 put.weight_put)

pub shape_of-pts : goal.shape_of-pts
shape_of-pts c = c.loop-i.invariant.0.same

pub shape_of-ws : goal.shape_of-ws
shape_of-ws c = c.loop-i.invariant.1.same
