-- `row_cells::other_bits`: the answers to its goals. Assumes nothing.
use native.Mathlib.Omega.{arith}
use Rattle.row_cells.specs.BitWalk.{and_others}
use Rattle.row_cells.proofs.other_bits.Goals as goal

pub returns : goal.returns
returns c = and_others _ c.requires (omega arith)
