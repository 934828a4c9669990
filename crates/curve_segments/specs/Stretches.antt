-- DEFINITIONS. The runs of a fit, stretch by stretch (5.15), as the tables give them. Assumes nothing.
use Rattle.std.specs.Prelude.{cond, List, [], ◌∷◌, ℕ, ◌+◌, Float}
use Rattle.std.specs.Float.Ieee.{le}
use Rattle.floats.specs.Numbers.{◌⊖◌, 1e-12, at}
use Rattle.floats.specs.Lists.{row}
use Rattle.curve_metric.specs.Walk.{depth, samples}
use Rattle.curve_walk.specs.declared.Form.TheVariants.{Fit}
use Rattle.curve_walk.specs.declared.Kept.{Kept}
use Rattle.curve_walk.specs.declared.Shape.{Shape}
use Rattle.curve_walk.specs.Walks.{eval_of, points_of}

-- the run of a fit's stretch from point i to the next, as the tables give it
unfoldable pub fit_run_at : Shape → List ℕ → List Float → List Float → List Float → ℕ → List (List Float)
fit_run_at s ms pts ks cs i =
    let p0 = row pts s.ch i in
    let p1 = row pts s.ch (i + 1) in
    let run = points_of (samples (eval_of s ks cs) ms s.tol depth (at ks i) p0 (at ks (i + 1)) p1) in
    cond (le (at ks (i + 1) ⊖ at ks i) 1e-12) (p1 ∷ []) run

-- a fit of the kept points, where an evaluation looks in piece w first
abbrev pub in_piece : Shape → Kept → ℕ → Shape
in_piece s k w = record { n = s.n; ch = s.ch; tol = s.tol; form = Fit (record { points = k.points; piece = w }) }
