-- `row_lay::put_cells`: the answers to its goals. Assumes nothing.
use native.Mathlib.Omega.{arith}
use Rattle.row_lay.specs.Over.{zeros}
use Rattle.row_lay.proofs.put_cells.Goals as goal

pub returns : goal.returns
returns c =
    let lay = c in
    let clear = lay in
    lay.lay_cells.ensures.is _ zeros (omega arith) clear.clear_cells.ensures
