-- `spline_adding::add_channels`: the answers to its goals. Assumes nothing.
use Rattle.floats.specs.Lists.{keep}
use Rattle.spline_channels.proofs.ChannelLaws.{channel_room, channel_step}
use Rattle.spline_channels.specs.Append.{appended_none, appended_all}
use Rattle.spline_adding.proofs.add_channels.Goals as goal

pub loop-k-init : goal.loop-k-init
unfolding keep
loop-k-init c = appended_none

pub add_channel-m-requires : goal.add_channel-m-requires
add_channel-m-requires c =
    let d = c in
    channel_room _ _ _ _ d.requires d.loop-k-test.true d.loop-k.invariant

pub loop-k-preserved : goal.loop-k-preserved
loop-k-preserved c =
    let d = c in
    let pre = d.requires in
    let put = c.add_channel-m.ensures in
    channel_step _ _ _ _ pre d.loop-k-test.true d.loop-k.invariant put

pub shape_of-chans : goal.shape_of-chans
shape_of-chans c = c.loop-k.invariant.same

pub returns : goal.returns
returns c = appended_all _ _ _ c.loop-k-test.false c.loop-k.invariant
