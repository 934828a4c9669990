-- `csv_cells::read_cell`: the answers to its goals. Assumes nothing.
use Rattle.std.proofs.Common.{sym, ◌∙◌, subst, arith}
use Rattle.std.proofs.lemmas.Grind.{common_steps}
use Rattle.csv_cells.specs.Taking.{CellIs}
use Rattle.csv_cells.proofs.Reading.{cell-absent, cell-given, cell_bad}
use Rattle.csv_cells.proofs.read_cell.Goals as goal

pub returns-then-is_empty : goal.returns-then-is_empty
returns-then-is_empty c = cell-absent _ (grind (arith, common_steps))

pub returns-in_err-x : goal.returns-in_err-x
returns-in_err-x c =
    subst (CellIs c.args.field.now) (sym c.from_residual.ensures) (cell_bad _ (grind (arith, common_steps)) (sym c.in_err-x.was ∙ c.read_number.ensures))

pub returns : goal.returns
returns c = cell-given _ (grind (arith, common_steps)) c.in_ok-x.x (sym c.in_ok-x.was ∙ c.read_number.ensures) _ c.bits.ensures
