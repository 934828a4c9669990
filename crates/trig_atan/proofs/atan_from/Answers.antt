-- `trig_atan::atan_from`: the answers to its goals. Assumes nothing.
use mathlib.Core.Path.{refl}
use Rattle.trig.specs.Trig.{atan_from}
use Rattle.trig_atan.proofs.atan_from.Goals as goal

pub returns : goal.returns
unfolding atan_from
returns c = refl
