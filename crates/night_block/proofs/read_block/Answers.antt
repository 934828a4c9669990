-- `night_block::read_block`: the answers to its goals. Assumes nothing.
use mathlib.Core.Path.{sym, ◌∙◌}
use Rattle.night_block.proofs.Carrying.{block_read, block_none}
use Rattle.night_block.proofs.read_block.Goals as goal

pub returns-then-read_row : goal.returns-then-read_row
returns-then-read_row c =
    let read = c.read_row.ensures in
    block_read _ _ _ (sym read.0 ∙ c.if-read_row.true) read.1

pub returns : goal.returns
returns c =
    let read = c.read_row.ensures in
    block_none _ _ _ (sym read.0 ∙ c.if-read_row.false) read.1
