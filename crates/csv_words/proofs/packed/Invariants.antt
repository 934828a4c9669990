-- `csv_words::packed`: what holds at each turn of its loop. Assumes nothing.
use Rattle.csv_words.specs.Chars.{Packing}
use Rattle.csv_words.proofs.packed.Given as goal

abbrev pub invariant-loop-b : goal.invariant-loop-b
invariant-loop-b l = Packing l.s l.n l.b-index
