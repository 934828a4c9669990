-- `bspline_owner::sum_knots`: what holds at each turn of its loops. Assumes nothing.
use mathlib.Core.Path.{◌≡◌}
use Rattle.bspline_tables.specs.Basis.{knot_sum}
use Rattle.bspline_owner.proofs.sum_knots.Given as goal

abbrev pub invariant-loop-knot : goal.invariant-loop-knot
invariant-loop-knot l = l.sum ≡ knot_sum l.ks l.i l.knot-index
