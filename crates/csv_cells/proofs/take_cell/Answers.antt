-- `csv_cells::take_cell`: the answers to its goals. Assumes nothing.
use Rattle.std.proofs.Common.{rules, ℕ, ◌*◌, ◌^◌, ap, sym, subst, ◌∙◌}
use Rattle.std.specs.Int.{from_bool}
use Rattle.csv_cells.specs.Taking.{TookOr}
use Rattle.csv_cells.proofs.Reading.{took, took_not, end-within}
use Rattle.csv_cells.proofs.take_cell.Goals as goal

pub slice_bounds-read_cell-end : goal.slice_bounds-read_cell-end
slice_bounds-read_cell-end c = let h = end-within _ _ _ c.requires.0 c.field_end-end.ensures in search rules

pub overflow_add-result : goal.overflow_add-result
overflow_add-result c = let h = end-within _ _ _ c.requires.0 c.field_end-end.ensures in search rules

pub returns : goal.returns
returns c =
    took _ _ _ _ _ _ _ _ _ c.in_ok-cell.cell c.field_end-end.ensures c.in_ok-cell.ensures c.code_at-code.ensures.0 c.unwrap_or.ensures
    (c.at_code.ensures ∙ ap (λ (n : ℕ). n * 2 ^ c.code_at-code.result) (c.from-bit.ensures ∙ ap from_bool c.is_some.ensures))

pub returns-in_err-cell : goal.returns-in_err-cell
returns-in_err-cell c =
    subst (TookOr c.args.text.now c.args.at c.args.i c.args.mask c.args.row.now c.args.row.now) (sym c.from_residual.ensures)
    (took_not _ _ _ c.field_end-end.ensures c.in_err-cell.ensures)
