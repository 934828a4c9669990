-- `trig_atan::acos`: the answers to its goals. Assumes nothing.
use Rattle.trig.specs.Trig.{acos_steps}
use Rattle.trig_atan.proofs.acos.Goals as goal

pub returns : goal.returns
unfolding acos_steps
returns c = rw (← c.root.ensures) c.atan2.ensures
