-- `csv_row_parts::put_cells`: the answers to its goals. Assumes nothing.
use mathlib.Core.Path.{◌≡◌}
use native.Mathlib.Omega.{arith}
use Rattle.csv_line.specs.LineText.{column_count}
use Rattle.csv_write.specs.Texts.{cell-length}
use Rattle.csv_write.specs.Writing.{puts_none, puts_past, puts_on, puts_off, puts_all, cells-tried}
use Rattle.csv_row_parts.proofs.put_cells.Goals as goal

pub loop-i-init : goal.loop-i-init
loop-i-init c = (omega arith, puts_none _ _ _ _ _)

pub pass_offsets-passed-requires : goal.pass_offsets-passed-requires
pass_offsets-passed-requires c =
    (c.requires.0, (c.loop-i-test.true, omega (arith, c.loop-i.invariant.1.room, c.loop-i.invariant.1.same)))

pub put_cell-requires : goal.put_cell-requires
put_cell-requires c =
    let past = c.pass_offsets-passed.ensures in
    let q = puts_past _ c.loop-i.invariant.1 past in
    (c.requires.0, (past.below, omega (arith, q.room, q.same, past.below)))

pub returns-in_err-at : goal.returns-in_err-at
returns-in_err-at c =
    let past = c.pass_offsets-passed.ensures in
    rw c.from_residual.ensures
    (cells-tried _ (puts_off _ _ _ column_count (puts_past _ c.loop-i.invariant.1 past) past.below c.in_err-at.was c.put_cell.ensures))

pub overflow_add-i : goal.overflow_add-i
overflow_add-i c =
    let past = c.pass_offsets-passed.ensures in
    omega (arith, past.below)

pub loop-i-smaller : goal.loop-i-smaller
loop-i-smaller c =
    let past = c.pass_offsets-passed.ensures in
    omega (arith, past.below, past.ahead)

pub loop-i-preserved : goal.loop-i-preserved
loop-i-preserved c =
    let past = c.pass_offsets-passed.ensures in (
      omega (arith, past.below),
      puts_on _ _ _ _ (puts_past _ c.loop-i.invariant.1 past) c.in_ok-at.was c.put_cell.ensures (cell-length _ _),
    )

pub shape_of-out : goal.shape_of-out
shape_of-out c = c.loop-i.invariant.1.same

pub returns : goal.returns
returns c =
    let e : c.loop-i.i ≡ column_count = omega (arith, c.loop-i.invariant.0) in
    cells-tried _ (puts_all _ _ _ column_count c.loop-i.invariant.1 e)
