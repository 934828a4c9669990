-- `spline_adding::channels_of`: the answers to its goals. Assumes nothing.
use mathlib.Core.Path.{◌≡◌}
use native.Mathlib.Omega.{arith}
use Rattle.floats.specs.Lists.{upto}
use Rattle.spline_channels.specs.Channels.{channels_from}
use Rattle.spline_channels.proofs.ChannelLaws.{channels-room, channels-step}
use Rattle.spline_channels.specs.Append.{appended_none}
use Rattle.spline_adding.proofs.channels_of.Goals as goal

pub loop-i-init : goal.loop-i-init
unfolding channels_from upto
loop-i-init c = appended_none

pub add_channels-n-requires : goal.add_channels-n-requires
add_channels-n-requires c =
    let pre = c.requires in
    channels-room _ _ _ pre.0 pre.1.1 _ c.loop-i.invariant

pub loop-i-preserved : goal.loop-i-preserved
loop-i-preserved c =
    let d = c in
    let pre = d.requires in
    channels-step _ _ _ pre.0 pre.1.1 _ d.loop-i.invariant c.add_channels-n.ensures

pub shape_of-chans : goal.shape_of-chans
shape_of-chans c = c.loop-i.invariant.same

pub returns : goal.returns
returns c = let e : c.loop-i.i ≡ c.args.held = omega arith in rw e at c.loop-i.invariant
