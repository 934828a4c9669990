-- `row_make::put_made`: the answers to its goals. Assumes nothing.
use native.Mathlib.Omega.{arith}
use Rattle.row_made.specs.Making.{made-written}
use Rattle.row_make.proofs.put_made.Goals as goal

pub returns : goal.returns
returns c =
    let cells = c in
    let head = cells in
    let made = head.made_head.ensures in
    made-written _ _ _ _ _ _ _ _ (omega arith) made head.put_head.ensures cells.put_made_cells.ensures
