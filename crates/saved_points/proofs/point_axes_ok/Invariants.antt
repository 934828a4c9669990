-- `saved_points::point_axes_ok`: what holds at each turn of its loops. Assumes nothing.
use mathlib.Core.Path.{◌≡◌}
use mathlib.Core.Bool.{true}
use Prim.Native.Nat.{ℕ}
use lib.ListN.{get_or}
use Rattle.layout.specs.Layout.{axis_codes}
use Rattle.row_cells.specs.BitWalk.{Walking}
use Rattle.saved_state.specs.State.{point_at_ok}
use Rattle.saved_points.proofs.point_axes_ok.Given as goal

abbrev pub invariant-loop-rest : goal.invariant-loop-rest
invariant-loop-rest l = Walking (get_or l.state l.w 0) axis_codes (λ (k : ℕ). point_at_ok l.state l.w k ≡ true) l.rest

abbrev pub decreases-loop-rest : goal.decreases-loop-rest
decreases-loop-rest l = l.rest
