-- `csv_run::push_row`: the answers to its goals. Assumes nothing.
use Rattle.csv_spec.specs.FitLaws.{push-fits}
use Rattle.csv_run.specs.StepLaws.{answer-room, row_step}
use borrow.Author.Rules.{rules}
use Rattle.csv_run.proofs.push_row.Goals as goal

pub call_answered-requires : goal.call_answered-requires
call_answered-requires c =
    answer-room c.requires.1 c.push-reply.ensures.reply (push-fits _ _ _ _) (search rules)

pub returns : goal.returns
returns c =
    row_step _ c.push-reply.ensures c.source_of.ensures c.call_answered.ensures
