-- `spline_gather::start_point`: what holds at each turn of its loops. Assumes nothing.
use mathlib.Core.List.{map}
use Prim.Native.Nat.{ℕ}
use lib.ListN.{take}
use lib.Ieee.{Float}
use Rattle.floats.specs.Lists.{upto}
use Rattle.row_cells.specs.Row.{shown}
use Rattle.spline_points.specs.Points.{start_value}
use Rattle.spline_channels.specs.Channels.{block_at}
use Rattle.spline_channels.specs.Gathers.{Appended}
use Rattle.spline_gather.proofs.start_point.Given as goal

abbrev pub invariant-loop-c : goal.invariant-loop-c
invariant-loop-c l = let f : ℕ → Float = start_value (shown l.start l.words) (upto (block_at l.store) l.held) in
    Appended (map f (take l.c l.chans)) 0 l.initial.pts l.pts l.c
