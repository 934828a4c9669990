-- `night_answer::counted_to`: the answers to its goals. Assumes nothing.
use Rattle.night_answer.proofs.Hearing.{counted-few, counted-many}
use Rattle.night_answer.proofs.counted_to.Goals as goal

pub returns-then-n-lt-LAST_LINE : goal.returns-then-n-lt-LAST_LINE
returns-then-n-lt-LAST_LINE c = counted-few _ c.if-n-lt-LAST_LINE.true

pub returns : goal.returns
returns c = counted-many _ c.if-n-lt-LAST_LINE.false
