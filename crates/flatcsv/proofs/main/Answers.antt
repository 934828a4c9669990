-- `flatcsv::main`: the answers to its goals. Assumes nothing.
use Rattle.std.proofs.Common.{refl}
use Rattle.csv_spec.specs.Csv.{begun}
use Rattle.flatcsv.proofs.main.Goals as goal

pub whole_run-end-requires : goal.whole_run-end-requires
unfolding begun
whole_run-end-requires c = (c.start.ensures, (refl, refl))
