-- DEFINITIONS. The Akima slopes as code reads them: one slope from four, and the slopes past either end. Assumes nothing.
use Rattle.std.specs.Prelude.{cond, List, ℕ, ◌-◌, Float}
use Rattle.std.specs.Float.Ieee.{lt}
use Rattle.floats.specs.Numbers.{◌⊕◌, ◌⊖◌, ◌⊗◌, ◌⊘◌, f½, f2, 1e-12, abs_of}
use Rattle.fit_slopes.specs.Slopes.{secant}

-- the slope between the second and the third of four steps' slopes
unfoldable pub akima_of : Float → Float → Float → Float → Float
akima_of m1 m2 m3 m4 =
    let w1 = abs_of (m4 ⊖ m3) in
    let w2 = abs_of (m2 ⊖ m1) in
    cond (lt 1e-12 (w1 ⊕ w2)) ((w1 ⊗ m2 ⊕ w2 ⊗ m3) ⊘ (w1 ⊕ w2)) (f½ ⊗ (m2 ⊕ m3))

-- the slope before the first step, and the one behind the last of n knots
abbrev pub before : List Float → List Float → Float
before ts ys = f2 ⊗ secant ts ys 0 ⊖ secant ts ys 1

abbrev pub behind : List Float → List Float → ℕ → Float
behind ts ys n = f2 ⊗ secant ts ys (n - 2) ⊖ secant ts ys (n - 3)
