-- LAWS. What was gathered and counted of held blocks is a plan of their emission. Assumes nothing.
use Prim.Native.Nat.{ℕ, ◌-◌, ◌≤◌, ◌<◌}
use Rattle.std.specs.Prelude.{◌≡◌, true, get_or, take}
use Rattle.std.proofs.Math.Path.{refl, sym, ap}
use Rattle.std.proofs.Common.{◌∙◌}
use Rattle.std.proofs.Math.Bool.{Bool}
use mathlib.Core.List.{List, [], ◌∷◌, map}
use native.Mathlib.Omega.{arith}
use Rattle.std.proofs.Math.ListN.{length}
use Rattle.std.proofs.lemmas.List.{length-map}
use Rattle.std.specs.Float.Ieee.{Float}
use Rattle.floats.specs.Numbers.{bits, f1}
use Rattle.floats.specs.Lists.{upto, keep, member, filled, flatten}
use Rattle.floats.specs.Fill.{at-filled}
use Rattle.layout.specs.Layout.{axis_codes}
use Rattle.motion.specs.Motion as Motion
use Rattle.row_cells.specs.Codes.{geometric_of}
use Rattle.row_cells.specs.Row.{shown, has_point}
use Rattle.curve_walk.specs.declared.Form.{Form}
use Rattle.curve_drawing.specs.declared.Drawing.{Drawing}
use Rattle.curve_drawing.specs.Runs.{drawn_runs}
use Rattle.spline_channels.specs.Channels.{Spline, channels, point_rows, block_at}
use Rattle.spline_points.specs.Points.{start_point, points_from, weight_of}
use Rattle.spline_metric.specs.Metric.{metric_of}
use Rattle.spline_channels.specs.Flat.{Sized, sized-cons}
use Rattle.spline_channels.proofs.ChannelLaws.{channels-few}
use Rattle.spline_points.specs.Curve.{points-sized, points-length}
use Rattle.spline_places.specs.declared.frame.Frame.{Frame}
use Rattle.spline_places.specs.declared.place.Place.{Place}
use Rattle.spline_places.specs.Places.{Few}
use Rattle.spline_places.specs.Sizes.{place_to}
use Rattle.spline_places.specs.SizeLaws.{place-few}
use Rattle.spline_job.specs.declared.Curve.{Curve}
use Rattle.spline_job.specs.declared.Job.{Job}
use Rattle.spline_answer.specs.Runs.{runs_of}
use Rattle.spline_answer.specs.Emission.{spline_groups}
use Rattle.spline_plan.specs.Words.{Lies, same_count}
use Rattle.spline_curve.specs.Asks.{spline_in, Holds, Gathered, Drawn, Recalled}
use Rattle.spline_job.specs.Jobs.{drawing_of}
use Rattle.spline_plan.specs.Plans.{places_of, frame_of, Counted, Planned}
use Rattle.spline_curve.specs.Curves.{runs_are}
use Rattle.spline_curve.specs.Gathers.{chan_below}
use Rattle.spline_plan.specs.Frames.{laid_lies}
use Rattle.spline_curve.specs.Widths.{runs_wide, runs_many}

-- ---- the spline of a state and a store
module _ (job : Job) (axes words store : List ℕ) (h : Holds axes words store job.held) where
  pub many_runs : length (runs_of (spline_in job axes words store)) ≡ length (keep (has_point (geometric_of axes)) (upto (block_at store) job.held))
  unfolding runs_of point_rows
  many_runs =
      let s : Spline = spline_in job axes words store in
      let cs : List ℕ = channels s in
      let p : List Float = start_point s cs in
      let rs : List (List ℕ) = point_rows s in
      let n : length (points_from cs p rs) ≡ length rs = points-length cs p rs in
      runs_many job.motion job.degree (metric_of cs) job.tol (p ∷ points_from cs p rs) (f1 ∷ map weight_of rs) ∙ omega arith

  pub wide_runs : Sized (length (channels (spline_in job axes words store))) (flatten (runs_of (spline_in job axes words store)))
  unfolding runs_of point_rows start_point
  wide_runs =
      let s : Spline = spline_in job axes words store in
      let cs : List ℕ = channels s in
      let p : List Float = start_point s cs in
      let rs : List (List ℕ) = point_rows s in
      let wide = sized-cons (length cs) p (points_from cs p rs) (length-map cs _) (points-sized cs p rs) in
      runs_wide job.motion job.degree (metric_of cs) job.tol (p ∷ points_from cs p rs) (f1 ∷ map weight_of rs) (length cs) (omega arith) wide

  pub chans_below : (k : ℕ) → member k (channels (spline_in job axes words store)) ≡ true → k < axis_codes
  unfolding channels
  chans_below k m = chan_below axes (upto (block_at store) job.held) h.once k m

  pub chans_few : length (channels (spline_in job axes words store)) ≤ axis_codes
  unfolding channels
  chans_few = channels-few axes (upto (block_at store) job.held) h.once

  counted_is : (counts : List ℕ) (total : Place) → job.held ≤ length counts
      → ((j : ℕ) → j < length (runs_of (spline_in job axes words store)) → get_or counts j 0 ≡ length (get_or (runs_of (spline_in job axes words store)) j []))
      → total ≡ place_to (geometric_of axes) counts (block_at store) job.held → Counted (spline_in job axes words store) (block_at store) job.held counts total
  unfolding spline_groups
  counted_is counts total k ej ep =
      let s : Spline = spline_in job axes words store in
      let o : Frame = frame_of axes (channels s) (Motion.is_basis job.motion) (length (runs_of s)) in
      let basis : Bool = Motion.is_basis job.motion in
      let lies : Lies s (runs_of s) o (places_of (channels s)) counts =
      laid_lies s axes (channels s) basis (length (runs_of s)) refl refl chans_below counts refl refl ej in
      let raw : ℕ → List ℕ = λ q. map bits (get_or (flatten (runs_of s)) q []) in
      record {
        known = k;
        counted = ej;
        place = ep;
        rows = ap (λ (p : Place). p.rows) ep
            ∙ sym (same_count s (runs_of s) o (places_of (channels s)) counts lies (block_at store) job.held refl many_runs wide_runs raw (λ q l. refl));
      }

-- ---- what was gathered and counted is a plan
module _ (job : Job) (axes words store : List ℕ) (h : Holds axes words store job.held) (g : Curve) (chans ms : List ℕ) (pts ws : List Float)
    (ga : Gathered (geometric_of axes) (shown job.start words) (upto (block_at store) job.held) g chans ms pts ws) where
  points-is : g.n - 1 ≡ length (runs_of (spline_in job axes words store))
  points-is = omega (arith, ga.count, many_runs job axes words store h)

  counted_of_lem : (l counts : List ℕ) (total : Place) → job.held ≤ length counts
      → counts ≡ filled (λ (i : ℕ). length (get_or (drawn_runs (drawing_of job g) (take g.metric ms) pts ws) i [])) (g.n - 1) l
      → total ≡ place_to (geometric_of axes) counts (block_at store) job.held
      → Counted (spline_in job axes words store) (block_at store) job.held counts total
  counted_of_lem l counts total k e ep = counted_is job axes words store h counts total k
      (λ j lt. ap (λ (x : List ℕ). get_or x j 0) e
      ∙ at-filled (λ (i : ℕ). length (get_or (drawn_runs (drawing_of job g) (take g.metric ms) pts ws) i [])) l (g.n - 1) j 0 (rw points-is lt)
      ∙ ap (λ (x : List (List (List Float))). length (get_or x j [])) (runs_are job axes words store g chans ms pts ws ga))
      ep

  pub planned_of : (d : Drawing) (form : Form) (ks cs : List Float) (l counts lefts : List ℕ) (total : Place) → d ≡ drawing_of job g
      → (length chans ≡ axis_codes) × (length ms ≡ axis_codes) → Drawn d form (take g.metric ms) pts ws ks cs
      → Recalled d form (take g.metric ms) pts ks cs lefts → job.held ≤ length counts → Few counts
      → counts ≡ filled (λ (i : ℕ). length (get_or (drawn_runs d (take g.metric ms) pts ws) i [])) (d.n - 1) l
      → total ≡ place_to (geometric_of axes) counts (block_at store) job.held
      → Planned axes words store (record { job = job; curve = g; drawing = d; form = form; place = total; chans = chans; ms = ms }) pts ws ks cs counts lefts
  planned_of d form ks cs l counts lefts total ed wide dr rc k few e ep = record {
    holds = h;
    gathered = ga;
    drawing = ed;
    drawn = dr;
    recalled = rc;
    counted = counted_of_lem l counts total k (rw ed at e) ep;
    few = rw ep (omega (arith, h.many, (place-few counts few (geometric_of axes) (block_at store) job.held).0));
    wide = wide;
  }
