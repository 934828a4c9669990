-- `spline_places::place::total`: what holds at each turn of its loops. Assumes nothing.
use mathlib.Core.Path.{◌≡◌}
use Rattle.row_cells.specs.Codes.{geometric_of}
use Rattle.spline_channels.specs.Channels.{block_at}
use Rattle.spline_places.specs.Sizes.{place_to}
use Rattle.spline_places.proofs.place.total.Given as goal

abbrev pub invariant-loop-i : goal.invariant-loop-i
invariant-loop-i l = l.place ≡ place_to (geometric_of l.axes) l.counts (block_at l.store) l.i
