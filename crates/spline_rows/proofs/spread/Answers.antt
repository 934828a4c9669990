-- `spline_rows::spread`: the answers to its goals. Assumes nothing.
use mathlib.Core.Path.{refl, ap, ◌∙◌}
use native.Mathlib.Omega.{arith}
use lib.ListN.{length}
use Rattle.spline_channels.proofs.ChannelLaws.{block-length}
use Rattle.spline_rows.proofs.Backward.{backward_none}
use Rattle.spline_rows.proofs.Spreading.{held-again, spread-again, spread_end}
use Rattle.spline_rows.proofs.spread.Goals as goal

pub loop-i-init : goal.loop-i-init
loop-i-init c = (c.requires.spreads.place, backward_none _ _ _ _ _ refl)

pub spread_block-place-requires : goal.spread_block-place-requires
spread_block-place-requires c =
    let d = c in
    let inv = d.loop-i.invariant in
    let pre = d.requires in
    let row = c.block.ensures in
    let long = ap length row ∙ block-length _ _ (omega arith) in
    held-again _ _ _ _ _ _ _ _ pre.spreads _ _ _ _ d.loop-i-test.true (omega arith) row long inv.0 inv.1.same

pub loop-i-preserved : goal.loop-i-preserved
loop-i-preserved c =
    let d = c in
    let inv = d.loop-i.invariant in
    let pre = d.requires in
    let row = c.block.ensures in
    let long = ap length row ∙ block-length _ _ (omega arith) in
    let put = c.spread_block-place in
    let kept = put.auto.rows in
    let came = put.ensures.value in
    spread-again _ _ _ _ _ _ _ _ pre.spreads _ _ _ _ _ _ d.loop-i-test.true (omega arith) row long inv.0 kept inv.1 came put.ensures.held_put

pub shape_of-rows : goal.shape_of-rows
shape_of-rows c = c.loop-i.invariant.1.same

pub returns : goal.returns
returns c =
    let inv = c.loop-i.invariant in
    spread_end _ _ _ _ _ _ _ _ c.requires.spreads _ _ _ (omega arith) inv.0 inv.1
