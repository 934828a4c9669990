-- LAWS. The runs of ASPLINE and CSPLINE: what each is and ends with, and that there is none where the chord sum does not grow. Assumes nothing.
use Rattle.std.specs.Prelude.{◌≡◌, refl, Bool, true, false, List, [], ◌∷◌, map, ℕ, ◌+◌, ◌-◌, ◌<◌, ◌≤◌, length, Float}
use Rattle.std.proofs.Common.{lt-ltb}
use Rattle.std.specs.Float.Ieee.{le}
use Rattle.floats.specs.Numbers.{◌⊖◌, 1e-12, at}
use Rattle.floats.specs.Lists.{upto}
use Rattle.curve_metric.specs.Ends.{EndsWith, ends-one, ends_some, ends-map}
use Rattle.curve_metric.specs.Metric.{point_of, chords}
use Rattle.curve_metric.specs.Walk.{Sample, depth, samples}
use Rattle.curve_metric.proofs.WalkLaws.{samples-end}
use Rattle.fit_knots.specs.Fit.{Fit, kept_to, eval_fit, fit_run, fit_runs}

-- ---- one run

module _ (fit : Fit) (ms : List ℕ) (tol : Float) (pts : List (List Float)) (ts : List Float) (i : ℕ) where
  -- the walk over the stretch
  abbrev pub stretch : (Float → List Float) → List Sample
  stretch eval = samples eval ms tol depth (at ts i) (point_of pts i) (at ts (i + 1)) (point_of pts (i + 1))

  pub run-one : le (at ts (i + 1) ⊖ at ts i) 1e-12 ≡ true → fit_run fit ms tol pts ts i ≡ point_of pts (i + 1) ∷ []
  unfolding fit_run
  run-one e = rw e

  pub run_walk : le (at ts (i + 1) ⊖ at ts i) 1e-12 ≡ false → fit_run fit ms tol pts ts i ≡ map (λ (s : Sample). s.point) (stretch (eval_fit fit))
  unfolding fit_run
  run_walk e = rw e

  -- a run ends at its programmed point, so that none is empty
  pub run_end : EndsWith (fit_run fit ms tol pts ts i) (point_of pts (i + 1))
  run_end = go (le (at ts (i + 1) ⊖ at ts i) 1e-12) refl
    where
      go : (b : Bool) → le (at ts (i + 1) ⊖ at ts i) 1e-12 ≡ b → EndsWith (fit_run fit ms tol pts ts i) (point_of pts (i + 1))
      go true e = rw (run-one e) (ends-one (point_of pts (i + 1)))
      go false e = rw (run_walk e) (ends-map (λ (s : Sample). s.point)
          (samples-end (eval_fit fit) ms tol depth (at ts i) (point_of pts i) (at ts (i + 1)) (point_of pts (i + 1))))

  pub run-some : 1 ≤ length (fit_run fit ms tol pts ts i)
  run-some = ends_some run_end

-- ---- all runs

module _ (cubic : Bool) (ms : List ℕ) (tol : Float) (pts : List (List Float)) where
  abbrev pub kept_of : List ℕ
  kept_of = kept_to (chords pts ms) (length pts - 1)

  pub runs_none : length kept_of < 2 → fit_runs cubic ms tol pts ≡ upto (λ (i : ℕ). []) (length pts - 1)
  unfolding fit_runs
  runs_none h = rw (lt-ltb (length kept_of) 2 h)
