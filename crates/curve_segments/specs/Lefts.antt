-- DEFINITIONS. What the count of a fit remembers for its writing. Assumes nothing.
use Rattle.std.specs.Prelude.{cond, List, [], ◌∷◌, ℕ, ◌+◌, Float}
use Rattle.std.specs.Float.Ieee.{le}
use Rattle.floats.specs.Numbers.{◌⊖◌, 1e-12, at}
use Rattle.floats.specs.Lists.{row}
use Rattle.curve_metric.specs.Walk.{depth}
use Rattle.curve_walk.specs.declared.Shape.{Shape}
use Rattle.curve_walk.specs.Walks.{eval_of}
use Rattle.curve_walk.specs.Lefts.{lefts_of}

-- of the stretch from point i to the next; one cut short has one sample, and no walk asks what is remembered of it
unfoldable pub fit_lefts : Shape → List ℕ → List Float → List Float → List Float → ℕ → List ℕ
fit_lefts s ms pts ks cs i =
    let p0 = row pts s.ch i in
    let p1 = row pts s.ch (i + 1) in
    let walked = lefts_of (eval_of s ks cs) ms s.tol depth (at ks i) p0 (at ks (i + 1)) p1 in
    cond (le (at ks (i + 1) ⊖ at ks i) 1e-12) (0 ∷ []) walked
