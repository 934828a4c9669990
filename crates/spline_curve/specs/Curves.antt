-- LAWS. The runs of the held blocks' curve, and their counts. Assumes nothing.
use Rattle.std.specs.Prelude.{ℕ, ◌-◌, ◌^◌, ◌≤◌, ◌<◌, ◌≡◌, refl, List, [], ◌∷◌, length, get_or, take, replicate, Float}
use Rattle.std.proofs.Common.{sym, ◌∙◌, ap, ⊎_elim, arith}
use Rattle.std.proofs.lemmas.List.{length-replicate, get_or-replicate}
use Rattle.std.proofs.Math.ListN.{get_or-eq_default}
use Rattle.floats.specs.Lists.{upto, filled, flatten, rows_of, spliced}
use Rattle.floats.specs.Fill.{at-filled, past-filled, lt_or_le}
use Rattle.floats.specs.Splice.{spliced-none}
use Rattle.layout.specs.Layout.{most_points}
use Rattle.motion.specs.Motion.{basis_kind, cubic_kind}
use Rattle.row_cells.specs.Codes.{geometric_of}
use Rattle.row_cells.specs.Row.{shown}
use Rattle.curve_metric.specs.Points.{length-rows}
use Rattle.curve_walk.specs.Walks.{encode}
use Rattle.curve_drawing.specs.declared.Drawing.{Drawing}
use Rattle.curve_drawing.specs.Runs.{drawn_runs}
use Rattle.curve_runs.specs.Draws.{drawn_as}
use Rattle.spline_channels.specs.Channels.{channels, point_rows, block_at}
use Rattle.spline_points.specs.Points.{start_point}
use Rattle.spline_places.specs.Places.{Few}
use Rattle.spline_job.specs.declared.Curve.{Curve}
use Rattle.spline_job.specs.declared.Job.{Job}
use Rattle.spline_answer.specs.Runs.{runs_of}
use Rattle.spline_curve.specs.Asks.{spline_in, Gathered}
use Rattle.spline_job.specs.Jobs.{drawing_of}
use Rattle.spline_curve.specs.Widths.{by-many, by-few}

-- ---- the runs
pub runs_are : (job : Job) (axes words store : List ℕ) (g : Curve) (chans ms : List ℕ) (pts ws : List Float)
    → Gathered (geometric_of axes) (shown job.start words) (upto (block_at store) job.held) g chans ms pts ws
    → drawn_runs (drawing_of job g) (take g.metric ms) pts ws ≡ runs_of (spline_in job axes words store)
unfolding runs_of channels point_rows start_point
runs_are job axes words store g chans ms pts ws h =
    drawn_as job.motion (drawing_of job g) (take g.metric ms) pts ws refl ∙ rw (h.metric, h.drawn, h.weights)

nothing : {A : Type 0} (xs : List A) → length xs ≡ 0 → xs ≡ []
nothing [] e = refl
nothing (x ∷ xs) e = absurd (omega arith)

-- how many runs a drawing has, and how long they are at most
many-drawn : (d : Drawing) (ms : List ℕ) (pts ws : List Float) → length (drawn_runs d ms pts ws) ≡ d.n - 1
unfolding drawn_runs
many-drawn d ms pts ws =
    by-many (basis_kind d.kind) (cubic_kind d.kind) d.degree ms d.tol (rows_of pts d.ch d.n) (take d.n ws)
    ∙ ap (λ (k : ℕ). k - 1) (length-rows pts d.ch d.n)

few-drawn : (d : Drawing) (ms : List ℕ) (pts ws : List Float) (i : ℕ) → d.n ≤ most_points
    → length (get_or (drawn_runs d ms pts ws) i []) ≤ 2 ^ 48
unfolding drawn_runs
few-drawn d ms pts ws i few =
    let short : length (rows_of pts d.ch d.n) ≤ most_points = rw (length-rows pts d.ch d.n) few in
    by-few (basis_kind d.kind) (cubic_kind d.kind) d.degree ms d.tol (rows_of pts d.ch d.n) (take d.n ws) i short

pub write_none : (d : Drawing) (ms : List ℕ) (pts ws : List Float) (l : List ℕ) → d.n < 2
    → l ≡ spliced l 0 (encode (flatten (drawn_runs d ms pts ws)))
unfolding encode flatten
write_none d ms pts ws l h =
    let e : length (drawn_runs d ms pts ws) ≡ 0 = many-drawn d ms pts ws ∙ omega arith in
    spliced-none l 0 ∙ ap (λ (z : List (List (List Float))). spliced l 0 (encode (flatten z))) (sym (nothing (drawn_runs d ms pts ws) e))

pub count_none : (f : ℕ → ℕ) (n : ℕ) (l : List ℕ) → n < 2 → l ≡ filled f (n - 1) l
unfolding upto
count_none f n l h = let e : n - 1 ≡ 0 = omega arith in rw e

pub few_runs : (d : Drawing) (ms : List ℕ) (pts ws : List Float) (l counts : List ℕ) → d.n ≤ most_points → Few l
    → counts ≡ filled (λ (i : ℕ). length (get_or (drawn_runs d ms pts ws) i [])) (d.n - 1) l → Few counts
few_runs d ms pts ws l counts few h e = record {
  few = λ i. rw e (⊎_elim
      (λ (lt : i < d.n - 1). rw (at-filled (λ (i : ℕ). length (get_or (drawn_runs d ms pts ws) i [])) l (d.n - 1) i 0 lt) (few-drawn d ms pts ws i few))
      (λ (ge : d.n - 1 ≤ i). rw (past-filled (λ (i : ℕ). length (get_or (drawn_runs d ms pts ws) i [])) l (d.n - 1) i 0 ge) (h.few i))
      (lt_or_le i (d.n - 1)));
}

pub few-zeros : (n : ℕ) → Few (replicate n 0)
few-zeros n = record {
  few = λ k. ⊎_elim
      (λ (l : k < n). rw (get_or-replicate {A = ℕ} n k 0 0 l) (omega arith))
      (λ (g : n ≤ k). rw (get_or-eq_default {A = ℕ} (replicate n 0) 0 {n = k} (rw (length-replicate {A = ℕ} n 0) g)) (omega arith))
      (lt_or_le k n);
}
