-- `csv_run::csv_line`: the answers to its goals. Assumes nothing.
use Rattle.csv_run.specs.StepLaws.{line_step}
use Rattle.csv_run.proofs.csv_line.Goals as goal

pub returns : goal.returns
returns c =
    line_step _ c.whole_line.ensures c.next_line.ensures
