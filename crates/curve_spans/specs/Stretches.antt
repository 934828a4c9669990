-- DEFINITIONS. The samples of a B-spline, knot span by knot span (5.22), as the tables give them. Assumes nothing.
use Rattle.std.specs.Prelude.{List, ℕ, ◌+◌, ◌-◌, Float}
use Rattle.floats.specs.Numbers.{of_nat}
use Rattle.floats.specs.Lists.{upto, flatten}
use Rattle.curve_metric.specs.Walk.{Sample, depth, samples}
use Rattle.curve_walk.specs.declared.Shape.{Shape}
use Rattle.curve_walk.specs.Walks.{eval_of}

-- the samples of the first k knot spans of a B-spline
unfoldable pub span_samples : (Float → List Float) → List ℕ → Float → ℕ → List Sample
span_samples ev ms tol k = flatten (upto (λ (j : ℕ). samples ev ms tol depth (of_nat j) (ev (of_nat j)) (of_nat (j + 1)) (ev (of_nat (j + 1)))) k)

-- of all spans of one of degree p
abbrev pub spline_samples : Shape → ℕ → List ℕ → List Float → List Float → List Sample
spline_samples s p ms ks cs = span_samples (eval_of s ks cs) ms s.tol (s.n - p)
