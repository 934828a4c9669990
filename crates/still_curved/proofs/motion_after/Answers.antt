-- `still_curved::motion_after`: the answers to its goals. Assumes nothing.
use Rattle.still_curved.proofs.SeenLaws.{motion-stays, motion-own}
use Rattle.still_curved.proofs.motion_after.Goals as goal

pub returns-then-own-eq0 : goal.returns-then-own-eq0
returns-then-own-eq0 c = motion-stays _ _ c.word_of-own.ensures c.if-own-eq0.true

pub returns : goal.returns
returns c = motion-own _ _ c.word_of-own.ensures c.if-own-eq0.false
