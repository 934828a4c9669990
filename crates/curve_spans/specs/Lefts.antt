-- DEFINITIONS. What the count of a B-spline remembers for its writing. Assumes nothing.
use Rattle.std.specs.Prelude.{List, ℕ, ◌+◌, ◌-◌, Float}
use Rattle.floats.specs.Numbers.{of_nat}
use Rattle.curve_metric.specs.Walk.{depth}
use Rattle.curve_walk.specs.declared.Shape.{Shape}
use Rattle.curve_walk.specs.Walks.{eval_of}
use Rattle.curve_walk.specs.Lefts.{lefts_of, joined}

-- of knot span j
unfoldable pub span_lefts : (Float → List Float) → List ℕ → Float → ℕ → List ℕ
span_lefts ev ms tol j = lefts_of ev ms tol depth (of_nat j) (ev (of_nat j)) (of_nat (j + 1)) (ev (of_nat (j + 1)))

-- of all spans of one of degree p
abbrev pub spline_lefts : Shape → ℕ → List ℕ → List Float → List Float → List ℕ
spline_lefts s p ms ks cs = joined (span_lefts (eval_of s ks cs) ms s.tol) (s.n - p)
