-- DEFINITIONS. ASPLINE and CSPLINE, curves of numbers through the points. Assumes nothing.
use Rattle.std.specs.Prelude.{ℕ, zero, suc, ◌+◌, ◌-◌, Bool, cond, List, [], ◌∷◌, ◌++◌, map, ltb, length, get_or, Float}
use Rattle.std.specs.Float.Ieee.{lt, le, neg}
use Rattle.floats.specs.Numbers.{◌⊕◌, ◌⊖◌, ◌⊗◌, ◌⊘◌, f0, f1, f2, f3, 1e-12, held_in, at}
use Rattle.floats.specs.Lists.{upto}
use Rattle.curve_metric.specs.Metric.{point_of, chords}
use Rattle.curve_metric.specs.Walk.{Sample, depth, samples}
use Rattle.fit_slopes.specs.Slopes.{step, akima_slope, cubic_slope}

-- ---- the fit: the points kept, each more than 1e-12 of chord sum after the one kept before it
unfoldable pub kept_to : List Float → ℕ → List ℕ
kept_to ts zero = 0 ∷ []
kept_to ts (suc k) =
    let ks = kept_to ts k in
    cond (lt 1e-12 (at ts (k + 1) ⊖ at ts (get_or ks (length ks - 1) 0))) (ks ++ ((k + 1) ∷ [])) ks

-- knots, their points, and for each channel the slopes at the knots
pub record Fit : Type 0 where
  pub times : List Float
  pub points : List (List Float)
  pub slopes : List (List Float)

unfoldable pub fit_of : Bool → List (List Float) → List Float → List ℕ → Fit
fit_of cubic pts ts ks =
    let fts = map (at ts) ks in
    let fps = map (point_of pts) ks in
    let n = length ks in
    let ys : ℕ → List Float = λ c. map (λ (p : List Float). at p c) fps in
    record {
      times = fts;
      points = fps;
      slopes = upto (λ (c : ℕ). upto (cond cubic (cubic_slope fts (ys c) n) (akima_slope fts (ys c) n)) n) (length (point_of pts 0));
    }

-- the first piece from w on, of f more, whose end t does not pass
unfoldable pub piece_from : List Float → Float → ℕ → ℕ → ℕ
piece_from ts t zero w = w
piece_from ts t (suc f) w = let next = piece_from ts t f (w + 1) in cond (le t (at ts (w + 1))) w next

unfoldable pub piece_of : List Float → ℕ → Float → ℕ
piece_of ts n t = piece_from ts t (n - 2) 0

-- the cubic piece from (y, m) to (z, k) at the fraction s of a step h
abbrev pub h00 : Float → Float
h00 s = f2 ⊗ (s ⊗ s ⊗ s) ⊖ f3 ⊗ (s ⊗ s) ⊕ f1

abbrev pub h10 : Float → Float
h10 s = s ⊗ s ⊗ s ⊖ f2 ⊗ (s ⊗ s) ⊕ s

abbrev pub h01 : Float → Float
h01 s = neg f2 ⊗ (s ⊗ s ⊗ s) ⊕ f3 ⊗ (s ⊗ s)

abbrev pub h11 : Float → Float
h11 s = s ⊗ s ⊗ s ⊖ s ⊗ s

abbrev pub hermite_of : Float → Float → Float → Float → Float → Float → Float
hermite_of s h y m z k = h00 s ⊗ y ⊕ h10 s ⊗ h ⊗ m ⊕ h01 s ⊗ z ⊕ h11 s ⊗ h ⊗ k

unfoldable pub eval_fit : Fit → Float → List Float
eval_fit fit t =
    let w = piece_of fit.times (length fit.times) t in
    let h = step fit.times w in
    let s = held_in f0 f1 ((t ⊖ at fit.times w) ⊘ h) in
    let y = point_of fit.points w in
    let z = point_of fit.points (w + 1) in
    upto (λ (c : ℕ). let m = get_or fit.slopes c [] in hermite_of s h (at y c) (at m w) (at z c) (at m (w + 1))) (length y)

-- the run of points that ends at point i + 1: that point alone where the chord sum hardly grows
unfoldable pub fit_run : Fit → List ℕ → Float → List (List Float) → List Float → ℕ → List (List Float)
fit_run fit ms tol pts ts i =
    let walk = map (λ (s : Sample). s.point) (samples (eval_fit fit) ms tol depth (at ts i) (point_of pts i) (at ts (i + 1)) (point_of pts (i + 1))) in
    cond (le (at ts (i + 1) ⊖ at ts i) 1e-12) (point_of pts (i + 1) ∷ []) walk

-- where the whole sum hardly grows no point but the start is kept, and no run has a sample: the sums never fall
unfoldable pub fit_runs : Bool → List ℕ → Float → List (List Float) → List (List (List Float))
fit_runs cubic ms tol pts =
    let ts = chords pts ms in
    let ks = kept_to ts (length pts - 1) in
    let fit = fit_of cubic pts ts ks in
    cond (ltb (length ks) 2) (upto (λ (i : ℕ). []) (length pts - 1)) (upto (fit_run fit ms tol pts ts) (length pts - 1))
