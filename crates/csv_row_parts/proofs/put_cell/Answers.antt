-- `csv_row_parts::put_cell`: the answers to its goals. Assumes nothing.
use mathlib.Core.Path.{sym, ◌∙◌}
use Rattle.csv_write.specs.Writing.{cell-present, cell-absent}
use Rattle.csv_row_parts.proofs.put_cell.Goals as goal

pub returns-then-has_bit : goal.returns-then-has_bit
returns-then-has_bit c =
    cell-present _ _ _ c.code_at-code.ensures.0 (sym c.if-has_bit.true ∙ c.has_bit.ensures) c.put_byte-at.ensures _ c.of_bits.ensures
    c.put_number.ensures

pub returns : goal.returns
returns c =
    cell-absent _ _ _ c.code_at-code.ensures.0 (sym c.if-has_bit.false ∙ c.has_bit.ensures) c.put_byte-at.ensures
