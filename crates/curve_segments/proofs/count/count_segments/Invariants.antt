-- `curve_segments::count::count_segments`: what holds at each turn of its loops. Assumes nothing.
use Prim.Native.Nat.{ℕ}
use lib.ListN.{length}
use Rattle.floats.specs.Fill.{Filling}
use Rattle.curve_walk.specs.Asks.{Stored}
use Rattle.curve_segments.specs.Stretches.{fit_run_at}
use Rattle.curve_segments.specs.Lefts.{fit_lefts}
use Rattle.curve_walk.specs.Lefts.{joined}
use Rattle.curve_segments.proofs.count.count_segments.Given as goal

abbrev pub invariant-loop-i : goal.invariant-loop-i
invariant-loop-i l = Filling (λ (j : ℕ). length (fit_run_at l.s l.ms l.pts l.ks l.cs j)) l.i l.initial.counts l.counts × Stored l.initial.lefts 0 (joined
    (fit_lefts l.s l.ms l.pts l.ks l.cs) l.i) l.c l.lefts
