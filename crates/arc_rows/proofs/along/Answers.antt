-- `arc_rows::along`: the answers to its goals. Assumes nothing.
use borrow.Author.Tests.{lt-ltb, le-ltb}
use Rattle.arc_rows.specs.Plan.{along_plan}
use Rattle.arc_rows.proofs.along.Goals as goal

pub returns-then-wanted-gt-MOST_ROWS : goal.returns-then-wanted-gt-MOST_ROWS
unfolding along_plan
returns-then-wanted-gt-MOST_ROWS c = rw (← c.wanted-wanted.ensures, lt-ltb _ _ c.if-wanted-gt-MOST_ROWS.true, c.count-count.ensures)

pub returns-else-wanted-gt-MOST_ROWS : goal.returns-else-wanted-gt-MOST_ROWS
unfolding along_plan
returns-else-wanted-gt-MOST_ROWS c = rw (← c.wanted-wanted.ensures, le-ltb _ _ c.if-wanted-gt-MOST_ROWS.false, c.count-count.ensures)
