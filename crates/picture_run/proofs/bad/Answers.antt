-- `picture_run::bad`: the answers to its goals. Assumes nothing.
use Rattle.picture_run.specs.RoomLaws.{noted-kept}
use Rattle.picture_run.proofs.bad.Goals as goal

pub returns : goal.returns
returns c = noted-kept _ _ c.refuse-then.ensures
