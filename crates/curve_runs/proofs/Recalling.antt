-- LAWS. What is remembered of a whole curve. Assumes nothing.
use mathlib.Core.Path.{◌≡◌, sym}
use mathlib.Core.List.{List, []}
use Prim.Native.Nat.{ℕ, ◌-◌, ◌<◌, ◌≤◌}
use native.Mathlib.Omega.{arith}
use lib.Seq.{sets}
use lib.Ieee.{Float}
use borrow.Author.Tests.{lt-ltb, le-ltb}
use Rattle.curve_walk.specs.declared.Form.TheVariants.{Basis, Fit}
use Rattle.curve_walk.specs.declared.Kept.{Kept}
use Rattle.curve_walk.specs.declared.Shape.{Shape}
use Rattle.curve_walk.specs.Asks.{Recalls}
use Rattle.curve_walk.proofs.Remembering.{stored_recalls, recalls_as}
use Rattle.curve_segments.specs.Lefts.{fit_lefts}
use Rattle.curve_walk.specs.Lefts.{joined}
use Rattle.curve_spans.specs.Lefts.{spline_lefts}
use Rattle.curve_runs.specs.Lefts.{form_lefts, curve_lefts}
use Rattle.curve_runs.specs.Asks.{Remembers}

module _ (s : Shape) (ms : List ℕ) (pts ks cs : List Float) where
  spline-lefts : {p : ℕ} → s.form ≡ Basis p → curve_lefts s ms pts ks cs ≡ spline_lefts s p ms ks cs
  unfolding form_lefts
  spline-lefts e = rw e

  empty-lefts : {k : Kept} → s.form ≡ Fit k → k.points < 2 → curve_lefts s ms pts ks cs ≡ []
  unfolding form_lefts
  empty-lefts {k} e h = rw (e, lt-ltb k.points 2 h)

  fit-lefts : {k : Kept} → s.form ≡ Fit k → 2 ≤ k.points → curve_lefts s ms pts ks cs ≡ joined (fit_lefts s ms pts ks cs) (s.n - 1)
  unfolding form_lefts
  fit-lefts {k} e h = rw (e, le-ltb k.points 2 h)

  module _ {r : Shape} (er : r ≡ s) where
    pub spline_remembers : {p : ℕ} → s.form ≡ Basis p → (l : List ℕ) {xs : List ℕ} → xs ≡ sets l 0 (spline_lefts r p ms ks cs) → Remembers s ms pts ks cs xs
    spline_remembers {p} e l h = record { all = recalls_as (sym (spline-lefts e)) (stored_recalls l 0 (spline_lefts s p ms ks cs) (rw er at h)) }

    pub fit_remembers : {k : Kept} → s.form ≡ Fit k → 2 ≤ k.points → (l : List ℕ) {xs : List ℕ} → xs ≡ sets l 0 (joined (fit_lefts r ms pts ks cs) (r.n - 1))
        → Remembers s ms pts ks cs xs
    fit_remembers e h l g = record { all = recalls_as (sym (fit-lefts e h)) (stored_recalls l 0 (joined (fit_lefts s ms pts ks cs) (s.n - 1)) (rw er at g)) }

    pub spline_recalls : {p : ℕ} → s.form ≡ Basis p → {xs : List ℕ} → Remembers s ms pts ks cs xs → Recalls xs 0 (spline_lefts r p ms ks cs)
    spline_recalls e m = rw er (recalls_as (spline-lefts e) m.all)

    pub fit_recalls : {k : Kept} → s.form ≡ Fit k → 2 ≤ k.points → {xs : List ℕ} → Remembers s ms pts ks cs xs
        → Recalls xs 0 (joined (fit_lefts r ms pts ks cs) (r.n - 1))
    fit_recalls e h m = rw er (recalls_as (fit-lefts e h) m.all)

  pub empty_remembers : {k : Kept} → s.form ≡ Fit k → k.points < 2 → (xs : List ℕ) → Remembers s ms pts ks cs xs
  empty_remembers e h xs = record { all = recalls_as (sym (empty-lefts e h)) (record { is = λ i g k. absurd (omega arith) }) }
