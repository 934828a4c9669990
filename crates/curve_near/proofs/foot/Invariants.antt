-- `curve_near::foot`: what holds at each turn of its loops. Assumes nothing.
use mathlib.Core.Path.{◌≡◌}
use Rattle.curve_metric.specs.Metric.{len_to, dot_to}
use Rattle.curve_near.proofs.foot.Given as goal

abbrev pub invariant-loop-i : goal.invariant-loop-i
invariant-loop-i l = (l.dot ≡ dot_to l.p l.a l.b l.ms l.i-index) × (l.len2 ≡ len_to l.a l.b l.ms l.i-index)
