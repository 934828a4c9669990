-- DEFINITIONS. What the counting walk remembers for the writing walk: for each sample the halvings left where its stretch was flat. Assumes nothing.
use Rattle.std.specs.Prelude.{cond, List, [], ◌∷◌, ◌++◌, ℕ, zero, suc, Float}
use Rattle.floats.specs.Lists.{upto, flatten}
use Rattle.curve_metric.specs.Walk.{flat, middle}
use Rattle.curve_walk.specs.declared.Interval.{Interval}
use Rattle.curve_walk.specs.declared.Shape.{Shape}
use Rattle.curve_walk.specs.Walks.{eval_of}

-- beside `samples`, by the same recursion
unfoldable pub lefts_of : (Float → List Float) → List ℕ → Float → ℕ → Float → List Float → Float → List Float → List ℕ
lefts_of eval ms tol zero t0 p0 t1 p1 = 0 ∷ []
lefts_of eval ms tol (suc left) t0 p0 t1 p1 =
    let tm = middle t0 t1 in
    let pm = eval tm in
    let halves = lefts_of eval ms tol left t0 p0 tm pm ++ lefts_of eval ms tol left tm pm t1 p1 in
    cond (flat eval ms tol t0 p0 t1 p1 pm) (suc left ∷ []) halves

-- beside `samples_in`
abbrev pub lefts_in : Shape → Interval → List ℕ → List Float → List Float → List Float → List Float → List ℕ
lefts_in s h ms ks cs p0 p1 = lefts_of (eval_of s ks cs) ms s.tol h.left h.t0 p0 h.t1 p1

-- of the first n parts of a curve
abbrev pub joined : (ℕ → List ℕ) → ℕ → List ℕ
joined f n = flatten (upto f n)
