-- `still_curved::curves`: the answers to its goals. Assumes nothing.
use Rattle.motion.proofs.MotionLaws.{curve-told}
use Rattle.still_curved.proofs.curves.Goals as goal

pub returns : goal.returns
returns c = curve-told _ _ _ c.kind_of.ensures c.is_curve.ensures
