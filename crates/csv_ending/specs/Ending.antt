-- CONTRACTS. The end of a run of the row text program. Assumes nothing.
use Rattle.std.specs.Prelude.{◌≡◌}
use Rattle.csv_status.specs.Status.{ended}
use Rattle.csv_reading.specs.declared.Reading.{Reading}
use Rattle.csv_ending.specs.declared.Ending.{Ending}

-- a run has ended only where its turns have, and then all that waits has been handed over
pub record LastIs (s : Reading) (r : Ending) : Type 0 where
  pub refused : r.refused ≡ s.run.refused
  pub over : r.over ≡ ended → s.over ≡ ended
  pub rows : r.over ≡ ended → r.rows ≡ s.run.out
  pub notices : r.over ≡ ended → r.notices ≡ s.run.err
