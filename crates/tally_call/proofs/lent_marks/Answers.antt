-- `tally_call::lent_marks`: the answers to its goals. Assumes nothing.
use Rattle.tally_call.specs.CallLaws.{lent-few, lent-some}
use Rattle.tally_call.proofs.lent_marks.Goals as goal

pub returns-then-n-whole : goal.returns-then-n-whole
returns-then-n-whole c = lent-few _ c.whole_rows-whole.ensures c.if-n-whole.true

pub returns : goal.returns
returns c = lent-some _ c.whole_rows-whole.ensures c.if-n-whole.false c.marks_of.ensures
