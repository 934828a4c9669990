-- `curve_chords::chord_parameters`: what holds at each turn of its loops. Assumes nothing.
use mathlib.Core.Path.{◌≡◌}
use Prim.Native.Nat.{◌-◌, ◌*◌}
use Rattle.floats.specs.Lists.{rows_of}
use Rattle.curve_metric.specs.Metric.{chord_to}
use Rattle.floats.specs.Fill.{Filling}
use Rattle.curve_chords.proofs.chord_parameters.Given as goal

abbrev pub invariant-loop-k : goal.invariant-loop-k
invariant-loop-k l = (l.at ≡ (l.k - 1) * l.ch) × ((l.t ≡ chord_to (rows_of l.pts l.ch l.n) l.ms (l.k - 1)) ×
    Filling (chord_to (rows_of l.pts l.ch l.n) l.ms) l.k l.initial.out l.out)
