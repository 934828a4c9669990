-- `curve_near::deviation_any`: what holds at each turn of its loops. Assumes nothing.
use mathlib.Core.Path.{◌≡◌}
use Rattle.curve_metric.specs.Metric.{dist_to}
use Rattle.curve_near.proofs.deviation_any.Given as goal

abbrev pub invariant-loop-i : goal.invariant-loop-i
invariant-loop-i l = l.sum ≡ dist_to l.p l.a l.b l.ms l.t l.i-index
