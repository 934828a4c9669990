-- `csv_run::done`: the answers to its goals. Assumes nothing.
use Rattle.csv_run.specs.DeedLaws.{done_as, full-done}
use Rattle.csv_run.proofs.done.Goals as goal

pub returns-in-Ended : goal.returns-in-Ended
returns-in-Ended c =
    done_as c.in-Ended.is (c.finish.ensures _)

pub returns-in-Full : goal.returns-in-Full
returns-in-Full c =
    done_as c.in-Full.is (full-done (c.finish-in-Full.ensures _))
