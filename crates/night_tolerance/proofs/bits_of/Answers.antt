-- `night_tolerance::bits_of`: the answers to its goals. Assumes nothing.
use Rattle.night_tolerance.proofs.Reading.{bits_is, bits_none}
use Rattle.night_tolerance.proofs.bits_of.Goals as goal

pub returns-in-Some : goal.returns-in-Some
returns-in-Some c = bits_is _ _ _ (cc (c.in-Some.is, c.read_number.ensures)) c.bits.ensures

pub returns-in-None : goal.returns-in-None
returns-in-None c = bits_none _ (cc (c.in-None.is, c.read_number.ensures))
