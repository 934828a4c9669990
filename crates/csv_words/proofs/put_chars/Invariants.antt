-- `csv_words::put_chars`: what holds at each turn of its loop. Assumes nothing.
use Prim.Native.Nat.{◌+◌, ◌-◌}
use Rattle.csv_words.specs.Chars.{Storing}
use Rattle.csv_words.proofs.put_chars.Given as goal

abbrev pub invariant-loop-i : goal.invariant-loop-i
invariant-loop-i l = Storing l.initial.out l.n l.k l.v l.out (l.n + l.i) (l.k - l.i)
