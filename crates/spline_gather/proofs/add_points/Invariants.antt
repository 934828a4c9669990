-- `spline_gather::add_points`: what holds at each turn of its loops. Assumes nothing.
use Rattle.spline_points.specs.Gathers.{PointsPut, WeightsPut}
use Rattle.spline_gather.proofs.add_points.Given as goal

abbrev pub invariant-loop-i : goal.invariant-loop-i
invariant-loop-i l = PointsPut l.axes l.store l.i l.chans l.initial.pts l.pts l.n × WeightsPut l.axes l.store l.i l.initial.ws l.ws l.n
