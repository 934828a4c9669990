-- `arc_words::start_on`: the answers to its goals. Assumes nothing.
use Rattle.row_cells.specs.Row.{shown}
use Rattle.arc_words.specs.Words.{start_of}
use Rattle.arc_words.proofs.start_on.Goals as goal

pub returns-then-has_bit : goal.returns-then-has_bit
unfolding start_of shown
returns-then-has_bit c = rw (← c.has_bit.ensures, c.if-has_bit.true) c.of_bits.ensures

pub returns : goal.returns
unfolding start_of shown
returns c = rw (← c.has_bit.ensures, c.if-has_bit.false) c.of_bits-2.ensures
