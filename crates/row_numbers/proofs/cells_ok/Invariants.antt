-- `row_numbers::cells_ok`: what holds at each turn of its loops. Assumes nothing.
use mathlib.Core.Path.{◌≡◌}
use mathlib.Core.Bool.{true}
use Prim.Native.Nat.{ℕ}
use Rattle.layout.specs.Layout.{cells}
use Rattle.row_numbers.specs.MaskCheck.{mask_cell_ok}
use Rattle.row_cells.specs.BitWalk.{Walking}
use Rattle.row_numbers.proofs.cells_ok.Given as goal

abbrev pub invariant-loop-rest : goal.invariant-loop-rest
invariant-loop-rest l = Walking l.mask cells (λ (k : ℕ). mask_cell_ok l.row l.mask k ≡ true) l.rest

abbrev pub decreases-loop-rest : goal.decreases-loop-rest
decreases-loop-rest l = l.rest
