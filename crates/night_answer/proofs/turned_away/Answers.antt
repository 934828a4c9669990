-- `night_answer::turned_away`: the answers to its goals. Assumes nothing.
use Rattle.night_answer.proofs.Hearing.{away-is}
use Rattle.night_answer.proofs.turned_away.Goals as goal

pub returns : goal.returns
returns c = away-is c.args.run _ _ c.turned_down-course.ensures c.with_course-away.ensures
