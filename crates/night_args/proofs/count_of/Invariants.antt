-- `night_args::count_of`: what holds at each turn of its loops. Assumes nothing.
use Prim.Native.Nat.{◌≤◌}
use lib.ListN.{length}
use Rattle.night_args.proofs.Counting.{Counting}
use Rattle.night_args.proofs.count_of.Given as goal

abbrev pub invariant-loop-k : goal.invariant-loop-k
invariant-loop-k l = Counting l.text l.at l.k × (l.at ≤ length l.text)
