-- `text_cut::far`: what holds at each turn of its loops. Assumes nothing.
use Prim.Native.Nat.{◌-◌}
use Rattle.text_cut.specs.Seek.{Seeking}
use Rattle.text_cut.proofs.far.Given as goal

abbrev pub invariant-loop-i : goal.invariant-loop-i
invariant-loop-i l = Seeking l.buf l.at l.end l.i

abbrev pub decreases-loop-i : goal.decreases-loop-i
decreases-loop-i l = l.end - l.i
