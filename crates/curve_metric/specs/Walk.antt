-- DEFINITIONS. The samples of a stretch of a curve. Assumes nothing.
use Rattle.std.specs.Prelude.{ℕ, zero, suc, Bool, cond, ◌&&◌, List, [], ◌∷◌, ◌++◌, Float}
use Rattle.std.specs.Float.Ieee.{le}
use Rattle.floats.specs.Numbers.{◌⊕◌, ◌⊖◌, ◌⊗◌, f¼, f½, f¾}
use Rattle.curve_metric.specs.Metric.{deviation_of}

-- ---- a chord is tested at the middle, the quarter and the three quarters of its stretch, and halved to a depth at most
pub record Sample : Type 0 where
  pub time : Float
  pub point : List Float

abbrev pub middle : Float → Float → Float
middle t0 t1 = f½ ⊗ (t0 ⊕ t1)

unfoldable pub near : List ℕ → Float → List Float → List Float → List Float → Bool
near ms tol p0 p1 p = le (deviation_of p p0 p1 ms) tol

-- the chord from (t0, p0) to (t1, p1) will do; pm is the curve's point at the middle
unfoldable pub flat : (Float → List Float) → List ℕ → Float → Float → List Float → Float → List Float → List Float → Bool
flat eval ms tol t0 p0 t1 p1 pm =
    near ms tol p0 p1 pm
    && (near ms tol p0 p1 (eval (t0 ⊕ f¼ ⊗ (t1 ⊖ t0))) && near ms tol p0 p1 (eval (t0 ⊕ f¾ ⊗ (t1 ⊖ t0))))

-- halvings of a stretch at most (5.9)
abbrev pub depth : ℕ
depth = 20

-- the samples of that stretch, halved at most `left` times more
unfoldable pub samples : (Float → List Float) → List ℕ → Float → ℕ → Float → List Float → Float → List Float → List Sample
samples eval ms tol zero t0 p0 t1 p1 = record { time = t1; point = p1 } ∷ []
samples eval ms tol (suc left) t0 p0 t1 p1 =
    let tm = middle t0 t1 in
    let pm = eval tm in
    let halves = samples eval ms tol left t0 p0 tm pm ++ samples eval ms tol left tm pm t1 p1 in
    cond (flat eval ms tol t0 p0 t1 p1 pm) (record { time = t1; point = p1 } ∷ []) halves
