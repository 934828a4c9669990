-- `curve_chords::gap2`: what holds at each turn of its loops. Assumes nothing.
use mathlib.Core.Path.{◌≡◌}
use Rattle.curve_metric.specs.Metric.{len_to}
use Rattle.curve_chords.proofs.gap2.Given as goal

abbrev pub invariant-loop-i : goal.invariant-loop-i
invariant-loop-i l = l.sum ≡ len_to l.a l.b l.ms l.i-index
