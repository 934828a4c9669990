-- `spline_points::next_point`: what holds at each turn of its loops. Assumes nothing.
use Prim.Native.Nat.{◌+◌}
use Rattle.floats.specs.Lists.{upto}
use Rattle.spline_channels.specs.Gathers.{Appended}
use Rattle.spline_points.specs.Gathers.{point_before}
use Rattle.spline_points.specs.Curve.{next_at}
use Rattle.spline_points.proofs.next_point.Given as goal

abbrev pub invariant-loop-c : goal.invariant-loop-c
invariant-loop-c l = Appended (upto (next_at l.chans (point_before l.chans l.at l.initial.pts) l.row) l.c) l.at
    l.initial.pts l.pts (l.at + l.c)
