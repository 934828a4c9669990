-- `arc_words::put_spans`: what holds at each turn of its loops. Assumes nothing.
use Rattle.floats.specs.Fill.{Filling}
use Rattle.arc_words.specs.Words.{span_of}
use Rattle.arc_words.proofs.put_spans.Given as goal

abbrev pub invariant-loop-k : goal.invariant-loop-k
invariant-loop-k l = Filling (span_of l.row l.starts) l.k l.initial.spans l.spans
