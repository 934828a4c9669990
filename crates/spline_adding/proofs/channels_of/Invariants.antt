-- `spline_adding::channels_of`: what holds at each turn of its loops. Assumes nothing.
use Rattle.spline_channels.specs.Gathers.{ChannelsPut}
use Rattle.spline_adding.proofs.channels_of.Given as goal

abbrev pub invariant-loop-i : goal.invariant-loop-i
invariant-loop-i l = ChannelsPut l.axes l.store l.i l.initial.chans l.chans l.n
