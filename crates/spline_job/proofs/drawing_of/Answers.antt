-- `spline_job::drawing_of`: the answers to its goals. Assumes nothing.
use Rattle.spline_job.proofs.drawing_of.Goals as goal

pub returns : goal.returns
returns c = rw c.kind_of.ensures
