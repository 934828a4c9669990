-- `night_answer::done_by`: the answers to its goals. Assumes nothing.
use Rattle.night_answer.proofs.Hearing.{done-is}
use Rattle.night_answer.proofs.done_by.Goals as goal

pub returns : goal.returns
returns c = done-is c.args.course _ _ _ c.counted_to.ensures c.stands_on.ensures
