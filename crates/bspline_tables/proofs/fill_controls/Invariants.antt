-- `bspline_tables::fill_controls`: what holds at each turn of its loops. Assumes nothing.
use mathlib.Core.Path.{◌≡◌}
use Prim.Native.Nat.{◌+◌, ◌*◌}
use Rattle.floats.specs.Lists.{upto}
use Rattle.bspline_tables.specs.Tables.{control_at}
use Rattle.bspline_tables.specs.RowLaws.{Rowing}
use Rattle.bspline_tables.proofs.fill_controls.Given as goal

abbrev pub invariant-loop-c : goal.invariant-loop-c
invariant-loop-c l = (l.a ≡ l.c * l.n) × Rowing l.initial.cw l.cw l.n (l.ch + 1) l.c (λ i. upto (control_at l.pts l.ws l.ch i) l.n)
