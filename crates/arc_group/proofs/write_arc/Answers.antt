-- `arc_group::write_arc`: the answers to its goals. Assumes nothing.
use Rattle.arc_sample.specs.Rowing.{flatten-one}
use Rattle.arc_rows.specs.Plan.{way_rows}
use Rattle.arc_group.proofs.write_arc.Goals as goal

pub returns-in-None : goal.returns-in-None
unfolding way_rows
returns-in-None c = rw (c.in-None.is, flatten-one) c.put_row.ensures

pub returns-in-Some : goal.returns-in-Some
unfolding way_rows
returns-in-Some c = rw c.in-Some.is c.draw.ensures
