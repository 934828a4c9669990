-- `csv_run::close_run`: the answers to its goals. Assumes nothing.
use Rattle.csv_spec.specs.FitLaws.{close-fits}
use Rattle.csv_run.specs.StepLaws.{answer-room, close-step}
use borrow.Author.Rules.{rules}
use Rattle.csv_run.proofs.close_run.Goals as goal

pub call_answered-requires : goal.call_answered-requires
call_answered-requires c =
    answer-room c.requires c.close-reply.ensures.reply (close-fits _ _ _) (search rules)

pub returns : goal.returns
returns c =
    close-step c.close-reply.ensures c.call_answered.ensures
