-- `night_tolerance::is_tolerance`: the answers to its goals. Assumes nothing.
use Rattle.night_tolerance.proofs.Reading.{tolerance-is, tolerance-none}
use Rattle.night_tolerance.proofs.is_tolerance.Goals as goal

pub returns-in-Some : goal.returns-in-Some
returns-in-Some c = tolerance-is _ _ (cc (c.in-Some.is, c.read_number.ensures))

pub returns-in-None : goal.returns-in-None
returns-in-None c = tolerance-none _ (cc (c.in-None.is, c.read_number.ensures))
