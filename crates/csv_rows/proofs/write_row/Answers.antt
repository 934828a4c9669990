-- `csv_rows::write_row`: the answers to its goals. Assumes nothing.
use Rattle.std.proofs.Common.{sym, ◌∙◌, arith}
use Rattle.csv_figures.specs.OutLaws.{wrote-length}
use Rattle.csv_line.specs.CodeLaws.{plane-low}
use Rattle.csv_write.specs.Writing.{line-high, motion-high, no-plane, behind-head, behind-cells, number-refused, row_written}
use Rattle.csv_rows.proofs.write_row.Goals as goal
use Rattle.csv_rows.proofs.write_row.Goals.{then-row-ge-LINE_NUMBERS-via-then-row-ge-LINE_NUMBERS}
use Rattle.csv_rows.proofs.write_row.Goals.{then-row-ge-LINE_NUMBERS-via-else-row-ge-LINE_NUMBERS+then-row-ge-MOTIONS}
use Rattle.csv_rows.proofs.write_row.Goals.{then-row-ge-LINE_NUMBERS-via-else-row-ge-LINE_NUMBERS+else-row-ge-MOTIONS+then-not-plane_ok}

pub returns-then-row-ge-LINE_NUMBERS : goal.returns-then-row-ge-LINE_NUMBERS
returns-then-row-ge-LINE_NUMBERS c =
    elim c.then-row-ge-LINE_NUMBERS.branch [
      | then-row-ge-LINE_NUMBERS-via-then-row-ge-LINE_NUMBERS w ↦ line-high _ _ _ w.if-row-ge-LINE_NUMBERS.true
      | then-row-ge-LINE_NUMBERS-via-else-row-ge-LINE_NUMBERS+then-row-ge-MOTIONS w ↦ motion-high _ _ _ w.if-row-ge-MOTIONS.true
      | then-row-ge-LINE_NUMBERS-via-else-row-ge-LINE_NUMBERS+else-row-ge-MOTIONS+then-not-plane_ok w ↦
          no-plane _ _ _ (sym w.plane_ok.ensures ∙ w.if-not-plane_ok.true)
    ]

pub put_head-a-requires : goal.put_head-a-requires
put_head-a-requires c =
    (c.requires.0, (c.if-row-ge-MOTIONS.false, (plane-low _ (sym c.plane_ok.ensures ∙ c.if-not-plane_ok.false), omega (arith, c.requires.1))))

pub put_cells-requires : goal.put_cells-requires
put_cells-requires c =
    let h = behind-head c.args.row.now _ _ c.if-row-ge-LINE_NUMBERS.false c.if-row-ge-MOTIONS.false (sym c.plane_ok.ensures ∙ c.if-not-plane_ok.false)
    c.put_head-a.ensures in
    (c.requires.0, omega (arith, c.requires.1, wrote-length c.put_head-a.ensures))

pub returns-in_err-b : goal.returns-in_err-b
returns-in_err-b c =
    rw c.from_residual.ensures
    (number-refused c.args.row.now _ _ c.if-row-ge-LINE_NUMBERS.false c.if-row-ge-MOTIONS.false (sym c.plane_ok.ensures ∙ c.if-not-plane_ok.false)
    c.put_head-a.ensures c.in_err-b.was c.put_cells.ensures)

pub put_end-requires : goal.put_end-requires
put_end-requires c =
    let h = behind-cells c.args.row.now _ _ c.if-row-ge-LINE_NUMBERS.false c.if-row-ge-MOTIONS.false (sym c.plane_ok.ensures ∙ c.if-not-plane_ok.false)
    c.put_head-a.ensures c.in_ok-b.was c.put_cells.ensures in
    (c.requires.0, omega (arith, c.requires.1))

pub returns : goal.returns
returns c =
    row_written c.args.row.now _ _ c.if-row-ge-LINE_NUMBERS.false c.if-row-ge-MOTIONS.false (sym c.plane_ok.ensures ∙ c.if-not-plane_ok.false)
    c.put_head-a.ensures c.in_ok-b.was c.put_cells.ensures c.put_end.ensures
