-- `csv_words::find`: what holds at each turn of its loop. Assumes nothing.
use Prim.Native.Nat.{◌+◌}
use Rattle.csv_words.specs.Seeks.{Seeking}
use Rattle.csv_words.proofs.find.Given as goal

abbrev pub invariant-loop-i : goal.invariant-loop-i
invariant-loop-i l = Seeking l.s l.from l.count l.number (l.from + l.count) l.i
