-- DEFINITIONS. BSPLINE, a clamped uniform rational B-spline, and whom its samples belong to. Assumes nothing.
use Rattle.std.specs.Prelude.{ℕ, zero, suc, ◌+◌, ◌-◌, min, max, cond, List, [], ◌∷◌, map, ltb, eqb, length, Float}
use Rattle.std.specs.Float.Ieee.{lt, le}
use Rattle.floats.specs.Numbers.{◌⊕◌, ◌⊖◌, ◌⊗◌, ◌⊘◌, of_nat, f0, f1, 1e-30, abs_of, held_in, at}
use Rattle.floats.specs.Lists.{upto, keep, flatten}
use Rattle.curve_metric.specs.Metric.{point_of}
use Rattle.curve_metric.specs.Walk.{Sample, depth, samples}
use Rattle.whole.specs.Whole.{trunc_count}

-- ---- the degree in force: below the number of points, the start among them
unfoldable pub degree_of : ℕ → ℕ → ℕ
degree_of n sd = max 1 (min sd (n - 1))

-- the clamped uniform knots of n control points: 0 (p + 1 times), 1, 2, .., spans (p + 1 times)
unfoldable pub knots : ℕ → ℕ → List Float
knots n p = upto (λ (j : ℕ). of_nat (min (j - p) (n - p))) (n + p + 1)

-- the share of row j at level r of de Boor's triangle, knot span k
unfoldable pub share : List Float → Float → ℕ → ℕ → ℕ → ℕ → Float
share us t p k r j =
    let low = at us (j + k - p) in
    let wide = at us (j + k - p + p + 1 - r) ⊖ low in
    cond (lt (abs_of wide) 1e-30) f0 ((t ⊖ low) ⊘ wide)

-- row j of the next level: rows below r stay
unfoldable pub raised_at : (ℕ → Float) → ℕ → List Float → ℕ → Float
raised_at a r d j = let x = a j in cond (ltb j r) (at d j) ((f1 ⊖ x) ⊗ at d (j - 1) ⊕ x ⊗ at d j)

-- the rows d of one channel after r levels
unfoldable pub levels : List Float → Float → ℕ → ℕ → List Float → ℕ → List Float
levels us t p k d zero = d
levels us t p k d (suc r) = let e = levels us t p k d r in upto (raised_at (share us t p k (suc r)) (suc r) e) (length d)

-- the curve: degree, knots, control points and their weights
pub record Bspline : Type 0 where
  pub power : ℕ
  pub knot : List Float
  pub points : List (List Float)
  pub weights : List Float

abbrev pub spans_of : Bspline → ℕ
spans_of b = length b.points - b.power

unfoldable pub basis_of : ℕ → List (List Float) → List Float → Bspline
basis_of sd pts ws =
    let n = length pts in
    let p = degree_of n sd in
    record { power = p; knot = knots n p; points = pts; weights = ws }

-- the knot span of t
unfoldable pub span_of : Bspline → Float → ℕ
span_of b t = cond (le (of_nat (spans_of b)) t) (length b.points - 1) (b.power + trunc_count t)

-- the top of the triangle over the rows f i, which are control point i's
unfoldable pub top_of : Bspline → Float → ℕ → (ℕ → Float) → Float
top_of b t k f = at (levels b.knot t b.power k (upto (λ (j : ℕ). f (j + k - b.power)) (b.power + 1)) b.power) b.power

-- the curve's point at u: each channel times its weight, over the weight
unfoldable pub eval_basis : Bspline → Float → List Float
eval_basis b u =
    let t = held_in f0 (of_nat (spans_of b)) u in
    let k = span_of b t in
    let w = top_of b t k (at b.weights) in
    upto (λ (c : ℕ). top_of b t k (λ (i : ℕ). at (point_of b.points i) c ⊗ at b.weights i) ⊘ w) (length (point_of b.points 0))

-- the samples, knot span by knot span
unfoldable pub basis_samples : Bspline → List ℕ → Float → List Sample
basis_samples b ms tol =
    flatten
    (upto (λ (j : ℕ). samples (eval_basis b) ms tol depth (of_nat j) (eval_basis b (of_nat j)) (of_nat (j + 1)) (eval_basis b (of_nat (j + 1))))
    (spans_of b))

-- Greville value of control point i: the mean of the p knots after knot i
unfoldable pub knot_sum : List Float → ℕ → ℕ → Float
knot_sum us i zero = f0
knot_sum us i (suc k) = knot_sum us i k ⊕ at us (i + 1 + k)

unfoldable pub greville : Bspline → ℕ → Float
greville b i = knot_sum b.knot i b.power ⊘ of_nat b.power

-- whom a sample belongs to, from point o on, of `left` more: the first whose Greville value is not below the sample
unfoldable pub owner_from : Bspline → Float → ℕ → ℕ → ℕ
owner_from b t zero o = o
owner_from b t (suc left) o = let next = owner_from b t left (o + 1) in cond (lt (greville b o) t) next o

-- both rise, so the search for a sample's owner goes on from the owner of the one before
pub record Owned : Type 0 where
  pub owner : ℕ
  pub point : List Float

unfoldable pub owned : Bspline → ℕ → List Sample → List Owned
owned b o [] = []
owned b o (s ∷ ss) =
    let now = owner_from b s.time (length b.points - 1 - o) o in
    record { owner = now; point = s.point } ∷ owned b now ss

-- the run of control point i + 1
unfoldable pub run_of : List Owned → ℕ → List (List Float)
run_of os i = map (λ (s : Owned). s.point) (keep (λ (s : Owned). eqb s.owner (i + 1)) os)

unfoldable pub basis_runs : ℕ → List ℕ → Float → List (List Float) → List Float → List (List (List Float))
basis_runs sd ms tol pts ws =
    let b = basis_of sd pts ws in
    let os = owned b 1 (basis_samples b ms tol) in
    upto (run_of os) (length pts - 1)
