-- `arc_ends::cell_number`: the answers to its goals. Assumes nothing.
use Rattle.row_cells.specs.Row.{cell, number}
use Rattle.arc_ends.proofs.cell_number.Goals as goal

pub returns-then-has_bit : goal.returns-then-has_bit
unfolding number cell
returns-then-has_bit c = rw (← c.has_bit.ensures, c.if-has_bit.true, c.of_bits.ensures)

pub returns : goal.returns
unfolding number cell
returns c = rw (← c.has_bit.ensures, c.if-has_bit.false)
