-- `spline_gather::first_value`: what holds at each turn of its loops. Assumes nothing.
use mathlib.Core.Path.{◌≡◌}
use Rattle.floats.specs.Numbers.{num}
use Rattle.floats.specs.Lists.{upto}
use Rattle.spline_points.specs.Points.{first_cell}
use Rattle.spline_channels.specs.Channels.{block_at}
use Rattle.spline_points.specs.Curve.{first_or}
use Rattle.spline_gather.proofs.first_value.Given as goal

abbrev pub invariant-loop-i : goal.invariant-loop-i
invariant-loop-i l = num (first_cell l.k (upto (block_at l.store) l.held)) ≡ first_or l.k l.value (upto (block_at l.store) l.i)
