-- `curve_put::put_point`: what holds at each turn of its loops. Assumes nothing.
use Prim.Native.Nat.{ℕ}
use Rattle.floats.specs.Numbers.{at, bits}
use Rattle.floats.specs.Splice.{Splicing}
use Rattle.curve_put.proofs.put_point.Given as goal

abbrev pub invariant-loop-k : goal.invariant-loop-k
invariant-loop-k l = Splicing (λ (i : ℕ). bits (at l.p i)) l.from l.k l.initial.out l.out
