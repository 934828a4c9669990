-- `curve_segments::write::write_segments`: what holds at each turn of its loops. Assumes nothing.
use mathlib.Core.Path.{◌≡◌}
use Prim.Native.Nat.{◌+◌}
use lib.ListN.{length}
use Rattle.floats.specs.Lists.{upto, flatten}
use Rattle.curve_walk.specs.Asks.{Written}
use Rattle.curve_segments.specs.Stretches.{fit_run_at}
use Rattle.curve_segments.specs.Lefts.{fit_lefts}
use Rattle.curve_walk.specs.Lefts.{joined}
use Rattle.curve_segments.proofs.write.write_segments.Given as goal

abbrev pub invariant-loop-i : goal.invariant-loop-i
invariant-loop-i l = Written l.initial.out 0 (flatten (upto (fit_run_at l.s l.ms l.pts l.ks l.cs) l.i)) l.at.word l.out × (l.at.sample ≡ 0 + length (joined
    (fit_lefts l.s l.ms l.pts l.ks l.cs) l.i))
