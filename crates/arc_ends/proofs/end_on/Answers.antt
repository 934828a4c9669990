-- `arc_ends::end_on`: the answers to its goals. Assumes nothing.
use Rattle.row_cells.specs.Row.{cell}
use Rattle.arc_ends.proofs.end_on.Goals as goal

pub returns-then-has_bit : goal.returns-then-has_bit
unfolding cell
returns-then-has_bit c = rw (← c.has_bit.ensures, c.if-has_bit.true) c.of_bits.ensures

pub returns : goal.returns
unfolding cell
returns c = rw (← c.has_bit.ensures, c.if-has_bit.false) c.of_bits-2.ensures
