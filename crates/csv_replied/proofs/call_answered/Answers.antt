-- `csv_replied::call_answered`: the answers to its goals. Assumes nothing.
use Rattle.csv_answer.specs.AnswerLaws.{same-fits, said-answers}
use Rattle.csv_replied.proofs.call_answered.Goals as goal

pub answered-requires : goal.answered-requires
answered-requires c =
    let start = c in
    same-fits start.requires

pub returns : goal.returns
returns c = said-answers c.answered.ensures
