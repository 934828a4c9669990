-- `csv_run::whole_run`: the answers to its goals. Assumes nothing.
use Rattle.csv_run.specs.RunLaws.{run_ends}
use Rattle.csv_run.proofs.whole_run.Goals as goal

pub returns : goal.returns
returns g c = run_ends _ _ _ _ c.all_turns-s.ensures c.last.ensures
