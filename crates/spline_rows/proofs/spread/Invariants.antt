-- `spline_rows::spread`: what holds at each turn of its loops. Assumes nothing.
use mathlib.Core.Path.{◌≡◌}
use Prim.Native.Nat.{ℕ}
use mathlib.Core.List.{List}
use Rattle.row_cells.specs.Codes.{geometric_of}
use Rattle.spline_channels.specs.Channels.{block_at}
use Rattle.spline_places.specs.Sizes.{place_to}
use Rattle.spline_rows.proofs.Spreading.{HeldFrom}
use Rattle.spline_rows.proofs.spread.Given as goal

abbrev pub invariant-loop-i : goal.invariant-loop-i
invariant-loop-i l = let gs : List ℕ = geometric_of l.axes in
    (l.place ≡ place_to gs l.counts (block_at l.store) l.i) × HeldFrom l.o gs l.places l.counts (block_at l.store) l.held l.i
    l.place l.initial.rows l.rows
