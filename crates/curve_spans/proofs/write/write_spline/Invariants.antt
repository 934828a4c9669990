-- `curve_spans::write::write_spline`: what holds at each turn of its loops. Assumes nothing.
use mathlib.Core.Path.{◌≡◌}
use Prim.Native.Nat.{◌+◌}
use lib.ListN.{length, replicate}
use Rattle.floats.specs.Numbers.{of_nat, f0}
use Rattle.floats.specs.Lists.{filled}
use Rattle.curve_metric.specs.Widest.{widest}
use Rattle.curve_walk.specs.Walks.{point_at, eval_of, points_of}
use Rattle.curve_walk.specs.Asks.{Written}
use Rattle.curve_spans.specs.Stretches.{span_samples}
use Rattle.curve_spans.specs.Lefts.{span_lefts}
use Rattle.curve_walk.specs.Lefts.{joined}
use Rattle.curve_spans.proofs.write.write_spline.Given as goal

abbrev pub invariant-loop-j : goal.invariant-loop-j
invariant-loop-j l = (l.t ≡ of_nat l.j)
    × ((l.prev ≡ filled (point_at l.s l.ks l.cs (of_nat l.j)) l.s.ch (replicate widest f0))
    × (Written l.initial.out 0 (points_of (span_samples (eval_of l.s l.ks l.cs) l.ms l.s.tol l.j)) l.at.word l.out
    × (l.at.sample ≡ 0 + length (joined (span_lefts (eval_of l.s l.ks l.cs) l.ms l.s.tol) l.j))))
