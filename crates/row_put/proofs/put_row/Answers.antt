-- `row_put::put_row`: the answers to its goals. Assumes nothing.
use native.Mathlib.Omega.{arith}
use native.Mathlib.Nat.{mod-lt}
use lib.Pow.{pow_pos}
use Rattle.layout.specs.Layout.{cells}
use Rattle.row_lay.specs.LayLaws.{row_lays}
use Rattle.row_put.proofs.Put.{out_written}
use Rattle.row_put.proofs.put_row.Goals as goal

pub put_cells-requires : goal.put_cells-requires
put_cells-requires c =
    let start = c in
    row_lays start.args.row.now start.requires.0 _ _ _ (omega arith) (mod-lt _ (pow_pos cells))

pub returns : goal.returns
returns c =
    let cells = c in
    let head = cells in
    let start = head in
    let words = head.out_head.ensures in
    out_written _ _ _ _ _ start.args.row.now start.requires.0 (omega arith) words head.put_head.ensures cells.put_cells.ensures
