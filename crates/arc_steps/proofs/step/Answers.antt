-- `arc_steps::step`: the answers to its goals. Assumes nothing.
use Rattle.arc_numbers.specs.Arc.{step_of}
use Rattle.arc_steps.proofs.step.Goals as goal

pub returns : goal.returns
unfolding step_of
returns c = rw (c.acos.ensures, c.held_in.ensures, c.larger.ensures)
