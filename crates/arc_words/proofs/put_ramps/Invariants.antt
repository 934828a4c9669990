-- `arc_words::put_ramps`: what holds at each turn of its loops. Assumes nothing.
use Rattle.floats.specs.Fill.{Filling}
use Rattle.arc_words.specs.Words.{ramp_of}
use Rattle.arc_words.proofs.put_ramps.Given as goal

abbrev pub invariant-loop-k : goal.invariant-loop-k
invariant-loop-k l = Filling (ramp_of l.starts l.spans l.f) l.k l.initial.words l.words
