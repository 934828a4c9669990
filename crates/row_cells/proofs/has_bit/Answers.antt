-- `row_cells::has_bit`: the answers to its goals. Assumes nothing.
use mathlib.Core.Path.{refl}
use Rattle.row_cells.specs.Bits.{has}
use Rattle.row_cells.proofs.has_bit.Goals as goal

pub returns : goal.returns
unfolding has
returns c = refl
