-- `spline_sample::sample_words`: what holds at each turn of its loops. Assumes nothing.
use lib.ListN.{replicate}
use Rattle.floats.specs.Fill.{Filling}
use Rattle.layout.specs.Layout.{axis_codes}
use Rattle.spline_sample.specs.Raw.{raw_word}
use Rattle.spline_sample.proofs.sample_words.Given as goal

abbrev pub invariant-loop-k : goal.invariant-loop-k
invariant-loop-k l = Filling (raw_word l.mask l.places l.rows l.from) l.k (replicate axis_codes 0) l.word-items
