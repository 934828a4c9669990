-- `arc_made::put_last_row`: the answers to its goals. Assumes nothing.
use Rattle.arc_made.specs.Drawn.{last_row}
use Rattle.arc_made.proofs.put_last_row.Goals as goal

pub returns : goal.returns
unfolding last_row
returns c = rw (← c.put_last.ensures) c.put_made.ensures
