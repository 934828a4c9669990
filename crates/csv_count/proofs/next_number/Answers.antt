-- `csv_count::next_number`: the answers to its goals. Assumes nothing.
use borrow.Author.Tests.{lt-ltb, le-ltb}
use Rattle.csv_count.specs.Count.{next_line}
use Rattle.csv_count.proofs.next_number.Goals as goal

pub returns-then-physical-lt-LAST_LINE : goal.returns-then-physical-lt-LAST_LINE
unfolding next_line
returns-then-physical-lt-LAST_LINE c = rw (lt-ltb _ _ c.if-physical-lt-LAST_LINE.true)

pub returns : goal.returns
unfolding next_line
returns c = rw (le-ltb _ _ c.if-physical-lt-LAST_LINE.false)
