-- DEFINITIONS. The slopes of ASPLINE and CSPLINE at their knots. Assumes nothing.
use Rattle.std.specs.Prelude.{ℕ, zero, suc, ◌+◌, ◌-◌, cond, List, [], ◌∷◌, ◌++◌, ltb, eqb, Float}
use Rattle.std.specs.Float.Ieee.{lt}
use Rattle.floats.specs.Numbers.{◌⊕◌, ◌⊖◌, ◌⊗◌, ◌⊘◌, f0, f½, f1, f2, f6, 1e-12, abs_of, at}
use Rattle.floats.specs.Lists.{upto}

-- ---- the step after i, and the slope over it
abbrev pub step : List Float → ℕ → Float
step ts i = at ts (i + 1) ⊖ at ts i

abbrev pub secant : List Float → List Float → ℕ → Float
secant ts ys i = (at ys (i + 1) ⊖ at ys i) ⊘ step ts i

-- Akima: the slopes of the steps of n knots, with two more before and two behind
unfoldable pub widened : List Float → List Float → ℕ → List Float
widened ts ys n =
    let s : ℕ → Float = secant ts ys in
    let a = f2 ⊗ s 0 ⊖ s 1 in
    let z = f2 ⊗ s (n - 2) ⊖ s (n - 3) in
    (f2 ⊗ a ⊖ s 0) ∷ a ∷ upto s (n - 1) ++ (z ∷ (f2 ⊗ z ⊖ s (n - 2)) ∷ [])

unfoldable pub akima_at : List Float → ℕ → Float
akima_at m i =
    let w1 = abs_of (at m (i + 3) ⊖ at m (i + 2)) in
    let w2 = abs_of (at m (i + 1) ⊖ at m i) in
    cond (lt 1e-12 (w1 ⊕ w2)) ((w1 ⊗ at m (i + 1) ⊕ w2 ⊗ at m (i + 2)) ⊘ (w1 ⊕ w2)) (f½ ⊗ (at m (i + 1) ⊕ at m (i + 2)))

unfoldable pub akima_slope : List Float → List Float → ℕ → ℕ → Float
akima_slope ts ys n k = let m = widened ts ys n in cond (eqb n 2) (secant ts ys 0) (akima_at m k)

-- natural cubic. Above the diagonal: 0 in row 0, the step in the rows between
abbrev pub sup : List Float → ℕ → Float
sup ts zero = f0
sup ts (suc i) = step ts (suc i)

-- the diagonal and the right side once the rows above are eliminated
unfoldable pub diag : List Float → ℕ → Float
diag ts zero = f1
diag ts (suc i) = f2 ⊗ (step ts i ⊕ step ts (suc i)) ⊖ step ts i ⊘ diag ts i ⊗ sup ts i

unfoldable pub rhs : List Float → List Float → ℕ → Float
rhs ts ys zero = f0
rhs ts ys (suc i) = f6 ⊗ (secant ts ys (suc i) ⊖ secant ts ys i) ⊖ step ts i ⊘ diag ts i ⊗ rhs ts ys i

-- the second derivative j places before the last of m + 1 knots: 0 at the last
unfoldable pub bend_back : List Float → List Float → ℕ → ℕ → Float
bend_back ts ys m zero = f0
bend_back ts ys m (suc j) = (rhs ts ys (m - suc j) ⊖ sup ts (m - suc j) ⊗ bend_back ts ys m j) ⊘ diag ts (m - suc j)

-- the second derivative at knot i of m + 1: 0 at both ends
unfoldable pub bend : List Float → List Float → ℕ → ℕ → Float
bend ts ys m zero = f0
bend ts ys m (suc i) = bend_back ts ys m (m - suc i)

unfoldable pub bent : List Float → List Float → ℕ → ℕ → Float
bent ts ys m i = cond (ltb i m)
    (secant ts ys i ⊖ step ts i ⊗ (f2 ⊗ bend ts ys m i ⊕ bend ts ys m (i + 1)) ⊘ f6)
    (secant ts ys (m - 1) ⊕ step ts (m - 1) ⊗ (bend ts ys m (m - 1) ⊕ f2 ⊗ bend ts ys m m) ⊘ f6)

unfoldable pub cubic_slope : List Float → List Float → ℕ → ℕ → Float
cubic_slope ts ys n k = cond (eqb n 2) (secant ts ys 0) (bent ts ys (n - 1) k)
