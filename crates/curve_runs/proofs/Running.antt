-- LAWS. The runs of a prepared curve, as the walks over its tables give them. Assumes nothing.
use mathlib.Core.Path.{◌≡◌, refl, sym, ap, ◌∙◌, subst, fun_ext}
use mathlib.Core.List.{List, [], ◌++◌}
use mathlib.Core.Bool.{Bool, true, false, cond}
use mathlib.Core.Logic.{⊎_elim}
use Prim.Native.Nat.{ℕ, zero, suc, ◌+◌, ◌-◌, ◌*◌, ◌<◌, ◌≤◌}
use native.Mathlib.Omega.{arith}
use lib.Dec.{ltb}
use lib.ListN.{length, get_or, take, drop, replicate}
use Rattle.std.proofs.lemmas.List.{length-replicate, get_or-replicate}
use lib.Seq.{ext_get_or, drop_at, length-take-le}
use lib.Ieee.{Float}
use borrow.Author.Tests.{lt-ltb, le-ltb}
use Rattle.floats.specs.Lists.{upto, filled, flatten, rows_of, spliced}
use Rattle.floats.specs.Fill.{length-upto, at-upto, upto-below, length-filled, at-filled, past-filled, lt_or_le}
use Rattle.floats.specs.Splice.{spliced-none}
use Rattle.motion.specs.Motion.{cubic_kind}
use Rattle.curve_metric.specs.Metric.{chords}
use Rattle.curve_metric.specs.Walk.{Sample}
use Rattle.curve_metric.specs.Points.{length-rows, point-rows}
use Rattle.fit_knots.specs.Fit.{Fit, kept_to, fit_of, eval_fit, fit_run, fit_runs}
use Rattle.fit_knots.specs.Memory.{FitHeld, fit_times, fit_points, fit_slopes}
use Rattle.fit_knots.specs.MemoryLaws.{eval_is}
use Rattle.fit_tables.specs.Asks.{Fitted}
use Rattle.bspline_tables.specs.Basis.{Bspline, basis_of, eval_basis, basis_samples, owner_from, owned, run_of, basis_runs}
use Rattle.bspline_tables.specs.BasisLaws.{runs_join, run_at}
use Rattle.bspline_tables.specs.Tables.{advanced}
use Rattle.bspline_tables.specs.TableLaws.{curve-is, owner-is, points_are, spans_are}
use Rattle.curve_walk.specs.declared.Form.{Form}
use Rattle.curve_walk.specs.declared.Kept.{Kept}
use Rattle.curve_walk.specs.declared.Shape.{Shape}
use Rattle.curve_walk.specs.Walks.{encode, form_at, eval_of, own_in, own_of, counted, points_of}
use Rattle.curve_walk.specs.Asks.{Fresh}
use Rattle.curve_walk.specs.Counting.{counted-length}
use Rattle.curve_spans.specs.Stretches.{span_samples, spline_samples}
use Rattle.curve_spans.specs.Asks.{Spans}
use Rattle.curve_segments.specs.Stretches.{fit_run_at}
use Rattle.curve_segments.specs.Asks.{Segments}
use Rattle.curve_drawing.specs.declared.Drawing.{Drawing}
use Rattle.curve_drawing.specs.Runs.{drawn_runs, shape_of}
use Rattle.curve_runs.specs.Asks.{Ready}
use Rattle.curve_runs.proofs.Owning.{own_from, count-owned, count_past}

-- ---- counts that start from 0

pub cleared : (l : List ℕ) (m : ℕ) {xs : List ℕ} → m ≤ length l → xs ≡ replicate (length (take m l)) 0 → xs ++ drop m l ≡ filled (λ (i : ℕ). 0) m l
cleared l m h e =
    let zero : ℕ → ℕ = λ i. 0 in
    let same : replicate m 0 ≡ upto zero m = sym (ext_get_or 0 (upto zero m) (replicate m 0) (length-upto zero m ∙ sym (length-replicate m 0))
    (λ k g. let less : k < m = omega (arith, length-upto zero m) in at-upto zero m k 0 less ∙ sym (get_or-replicate m k 0 0 less))) in
    ap (λ (z : List ℕ). z ++ drop m l) (e ∙ ap (λ (n : ℕ). replicate n 0) (length-take-le m l h) ∙ same)

pub fresh_of : {s : Shape} {n : ℕ} (l : List ℕ) {xs : List ℕ} → s.n ≡ n → n - 1 ≤ length l → xs ≡ filled (λ (i : ℕ). 0) (n - 1) l → Fresh s xs
fresh_of {s} {n} l {xs} e h ex = record {
  table = omega (arith, e, ap length ex ∙ length-filled (λ (i : ℕ). 0) l (n - 1) h);
  none = λ k g. ap (λ (z : List ℕ). get_or z k 0) ex ∙ at-filled (λ (i : ℕ). 0) l (n - 1) k 0 (omega (arith, e));
}

refilled : (f g : ℕ → ℕ) (n : ℕ) (l : List ℕ) → filled f n (filled g n l) ≡ filled f n l
refilled f g n l = ap (λ (z : List ℕ). upto f n ++ z) (drop_at (upto g n) (drop n l) n (length-upto g n))

filled-below : (f g : ℕ → ℕ) (n : ℕ) (l : List ℕ) → ((k : ℕ) → k < n → f k ≡ g k) → filled f n l ≡ filled g n l
filled-below f g n l e = ap (λ (z : List ℕ). z ++ drop n l) (upto-below f g n e)

-- ---- a drawing by its points

pub fitted_as : {a b : Bool} {n ch : ℕ} {ms : List ℕ} {pts : List Float} {m : ℕ} {ks cs : List Float} → a ≡ b
    → Fitted a n ch ms pts m ks cs → Fitted b n ch ms pts m ks cs
fitted_as {a} {b} {n} {ch} {ms} {pts} {m} {ks} {cs} e f = subst (λ (z : Bool). Fitted z n ch ms pts m ks cs) e f

pub ready_as : {d : Drawing} {f g : Form} {ms : List ℕ} {pts ws ks cs : List Float} → f ≡ g → Ready d f ms pts ws ks cs → Ready d g ms pts ws ks cs
ready_as {d} {f} {g} {ms} {pts} {ws} {ks} {cs} e r = subst (λ (f : Form). Ready d f ms pts ws ks cs) e r

abbrev rows : Drawing → List Float → List (List Float)
rows d pts = rows_of pts d.ch d.n

abbrev bspline : Drawing → List Float → List Float → Bspline
bspline d pts ws = basis_of d.degree (rows d pts) (take d.n ws)

abbrev run_length : Drawing → List ℕ → List Float → List Float → ℕ → ℕ
run_length d ms pts ws i = length (get_or (drawn_runs d ms pts ws) i [])

-- ---- B-splines

module _ {d : Drawing} {p : ℕ} {ms : List ℕ} {pts ws ks cs : List Float} (r : Ready d (Form.Basis p) ms pts ws ks cs) where
  pub spline_spans : {s : Shape} → s ≡ shape_of d (Form.Basis p) → Spans s p ks cs
  spline_spans e = rw e (record {
    tables = record { narrow = r.narrow; few = r.few; knots = r.knots; controls = r.controls; formed = r.laid.tables.tables };
    form = refl;
  })

  spline_runs : drawn_runs d ms pts ws ≡ basis_runs d.degree ms d.tol (rows d pts) (take d.n ws)
  unfolding drawn_runs
  spline_runs = rw r.laid.kind

  spline_eval : eval_of (shape_of d (Form.Basis p)) ks cs ≡ eval_basis (bspline d pts ws)
  unfolding form_at
  spline_eval = fun_ext (λ t. curve-is r.laid.tables t)

  own_any : (b : Bspline) → ((t : Float) (left o : ℕ) → o + left ≤ d.n → advanced ks p t left o ≡ owner_from b t left o) → (o : ℕ) (t : Float)
      → advanced ks p t (d.n - 1 - o) o ≡ owner_from b t (d.n - 1 - o) o
  unfolding advanced owner_from
  own_any b is o t = ⊎_elim
      (λ lt. is t (d.n - 1 - o) o (omega (arith, r.two)))
      (λ ge. let z : d.n - 1 - o ≡ 0 = omega arith in rw z)
      (lt_or_le o d.n)

  spline-own : own_of (shape_of d (Form.Basis p)) ks ≡ own_from (bspline d pts ws)
  unfolding own_in
  spline-own = fun_ext (λ o. fun_ext (λ t.
      own_any (bspline d pts ws) (owner-is r.laid.tables) o t
      ∙ ap (λ (k : ℕ). owner_from (bspline d pts ws) t (k - 1 - o) o) (sym (points_are r.laid.tables))))

  all-samples : (b : Bspline) (k : ℕ) → k ≡ length b.points - b.power → span_samples (eval_basis b) ms d.tol k ≡ basis_samples b ms d.tol
  unfolding span_samples basis_samples
  all-samples b k e = rw e

  spline-samples : spline_samples (shape_of d (Form.Basis p)) p ms ks cs ≡ basis_samples (bspline d pts ws) ms d.tol
  spline-samples =
      ap (λ (ev : Float → List Float). span_samples ev ms d.tol (d.n - p)) spline_eval
      ∙ all-samples (bspline d pts ws) (d.n - p) (sym (spans_are r.laid.tables))

  -- the points in curve order
  pub spline-points : {s : Shape} → s ≡ shape_of d (Form.Basis p) → points_of (spline_samples s p ms ks cs) ≡ flatten (drawn_runs d ms pts ws)
  spline-points es = rw es (
      ap points_of spline-samples
      ∙ sym (runs_join d.degree ms d.tol (rows d pts) (take d.n ws) (rw (length-rows pts d.ch d.n) r.two))
      ∙ ap flatten (sym spline_runs))

  -- the counts by owner
  counted_runs : (l : List ℕ) {xs ys : List ℕ} → d.n - 1 ≤ length l → xs ≡ filled (λ (i : ℕ). 0) (d.n - 1) l
      → ys ≡ counted (own_from (bspline d pts ws)) 1 (basis_samples (bspline d pts ws) ms d.tol) xs → ys ≡ filled (run_length d ms pts ws) (d.n - 1) l
  counted_runs l {xs} {ys} h ex is =
      let b : Bspline = bspline d pts ws in
      let m : length (bspline d pts ws).points ≡ d.n = points_are r.laid.tables in
      let ss : List Sample = basis_samples (bspline d pts ws) ms d.tol in
      let n : ℕ = d.n - 1 in
      let lx : length xs ≡ length l = ap length ex ∙ length-filled (λ (i : ℕ). 0) l n h in
      let ly : length ys ≡ length l = ap length is ∙ counted-length (own_from b) 1 ss xs ∙ lx in
      ext_get_or 0 ys (filled (run_length d ms pts ws) n l) (ly ∙ sym (length-filled (run_length d ms pts ws) l n h)) (λ k g. ⊎_elim
      (λ lt.
      let z : get_or xs k 0 ≡ 0 = ap (λ (w : List ℕ). get_or w k 0) ex ∙ at-filled (λ (i : ℕ). 0) l n k 0 lt in
      let c : get_or (counted (own_from b) 1 ss xs) k 0 ≡ get_or xs k 0 + length (run_of (owned b 1 ss) k) =
      count-owned b 1 ss xs k (omega arith) (omega (arith, m, r.two)) (omega (arith, m, lx)) (omega (arith, m)) in
      let q : get_or (drawn_runs d ms pts ws) k [] ≡ run_of (owned b 1 ss) k =
      ap (λ (w : List (List (List Float))). get_or w k []) spline_runs
      ∙ run_at d.degree ms d.tol (rows d pts) (take d.n ws) k (rw (length-rows pts d.ch d.n) lt) in
      let v : get_or ys k 0 ≡ run_length d ms pts ws k =
      ap (λ (w : List ℕ). get_or w k 0) is ∙ c ∙ ap (λ (w : ℕ). w + length (run_of (owned b 1 ss) k)) z ∙ (omega arith) ∙ ap length (sym q) in
      v ∙ sym (at-filled (run_length d ms pts ws) l n k 0 lt))
      (λ ge. ap (λ (w : List ℕ). get_or w k 0) is ∙ count_past b 1 ss xs k (omega arith) (omega (arith, m, r.two)) (omega (arith, m))
      ∙ ap (λ (w : List ℕ). get_or w k 0) ex ∙ past-filled (λ (i : ℕ). 0) l n k 0 ge ∙ sym (past-filled (run_length d ms pts ws) l n k 0 ge))
      (lt_or_le k n))

  pub spline-counted : {s : Shape} → s ≡ shape_of d (Form.Basis p) → (l : List ℕ) {xs ys : List ℕ} → d.n - 1 ≤ length l
      → xs ≡ filled (λ (i : ℕ). 0) (d.n - 1) l
      → ys ≡ counted (own_of s ks) 1 (spline_samples s p ms ks cs) xs → ys ≡ filled (run_length d ms pts ws) (d.n - 1) l
  spline-counted {s} es l {xs} {ys} h ex ey =
      let ez : ys ≡ counted (own_of (shape_of d (Form.Basis p)) ks) 1 (spline_samples (shape_of d (Form.Basis p)) p ms ks cs) xs = rw es at ey in
      counted_runs l h ex
      (ez ∙ ap (λ (o : ℕ → Float → ℕ). counted o 1 (spline_samples (shape_of d (Form.Basis p)) p ms ks cs) xs) spline-own
      ∙ ap (λ (z : List Sample). counted (own_from (bspline d pts ws)) 1 z xs) spline-samples)

-- ---- fits

abbrev kept : Drawing → List ℕ → List Float → List ℕ
kept d ms pts = kept_to (chords (rows d pts) ms) (d.n - 1)

abbrev the_fit : Drawing → List ℕ → List Float → Fit
the_fit d ms pts = fit_of (cubic_kind d.kind) (rows d pts) (chords (rows d pts) ms) (kept d ms pts)

none-flat : (k : ℕ) → flatten {A = List Float} (upto (λ (i : ℕ). []) k) ≡ []
unfolding upto flatten
none-flat zero = refl
none-flat (suc k) = Rattle.floats.specs.Joins.flatten_snoc (upto (λ (i : ℕ). []) k) [] ∙ mathlib.Core.List.append-nil _ ∙ none-flat k

module _ {d : Drawing} {k : Kept} {ms : List ℕ} {pts ws ks cs : List Float} (r : Ready d (Form.Fit k) ms pts ws ks cs) where
  fit-runs : drawn_runs d ms pts ws ≡ fit_runs (cubic_kind d.kind) ms d.tol (rows d pts)
  unfolding drawn_runs
  fit-runs = rw r.laid.kind

  runs_of_lem : (b : Bool) → ltb (length (kept d ms pts)) 2 ≡ b → fit_runs (cubic_kind d.kind) ms d.tol (rows d pts)
      ≡ cond b (upto (λ (i : ℕ). []) (d.n - 1)) (upto (fit_run (the_fit d ms pts) ms d.tol (rows d pts) (chords (rows d pts) ms)) (d.n - 1))
  unfolding fit_runs
  runs_of_lem b e = rw (length-rows pts d.ch d.n, e)

  -- nothing kept but the start
  empty_runs : k.points < 2 → drawn_runs d ms pts ws ≡ upto (λ (i : ℕ). []) (d.n - 1)
  empty_runs h = fit-runs ∙ runs_of_lem true (lt-ltb (length (kept d ms pts)) 2 (omega (arith, r.laid.tables.fit.count)))

  pub empty-counted : k.points < 2 → (l : List ℕ) {xs : List ℕ} → xs ≡ filled (λ (i : ℕ). 0) (d.n - 1) l → xs ≡ filled (run_length d ms pts ws) (d.n - 1) l
  empty-counted h l ex = ex ∙ filled-below (λ (i : ℕ). 0) (run_length d ms pts ws) (d.n - 1) l (λ j g.
      sym (ap (λ (z : List (List (List Float))). length (get_or z j [])) (empty_runs h) ∙ ap length (at-upto (λ (i : ℕ). []) (d.n - 1) j [] g)))

  pub empty-written : k.points < 2 → (l : List ℕ) → l ≡ spliced l 0 (encode (flatten (drawn_runs d ms pts ws)))
  unfolding encode flatten
  empty-written h l = spliced-none l 0 ∙ ap (λ (z : List (List Float)). spliced l 0 (encode z)) (sym (ap flatten (empty_runs h) ∙ none-flat (d.n - 1)))

  module _ (two : 2 ≤ k.points) where
    held : FitHeld (the_fit d ms pts) (fit_times d.n ks) (fit_points (d.n * d.ch) cs) (fit_slopes (d.n * d.ch) cs) k.points d.ch
    held = r.laid.tables.fit.held two

    pub fit_segments : {s : Shape} → s ≡ shape_of d (Form.Fit k) → Segments s ms pts ks cs × (s.form ≡ Form.Fit k)
    fit_segments e = rw e (
      record {
        kind = tt;
        tables = record { narrow = r.narrow; few = r.few; knots = r.knots; controls = r.controls; formed = held.room };
        metric = r.metric;
        two = r.two;
        points = r.points;
      },
      refl,
    )

    fit_eval : eval_of (shape_of d (Form.Fit k)) ks cs ≡ eval_fit (the_fit d ms pts)
    unfolding form_at
    fit_eval = fun_ext (λ t. sym (eval_is held t))

    fit-run : (i : ℕ) → i < d.n - 1
        → fit_run_at (shape_of d (Form.Fit k)) ms pts ks cs i ≡ fit_run (the_fit d ms pts) ms d.tol (rows d pts) (chords (rows d pts) ms) i
    unfolding fit_run_at fit_run
    fit-run i g =
        let sums = r.laid.tables.sums in
        let a = point-rows pts d.ch d.n i (omega arith) in
        let b = point-rows pts d.ch d.n (i + 1) (omega arith) in
        rw (fit_eval, sums i (omega arith), sums (i + 1) (omega arith), a, b)

    full_runs : drawn_runs d ms pts ws ≡ upto (fit_run_at (shape_of d (Form.Fit k)) ms pts ks cs) (d.n - 1)
    full_runs =
        fit-runs ∙ runs_of_lem false (le-ltb (length (kept d ms pts)) 2 (omega (arith, r.laid.tables.fit.count)))
        ∙ sym (upto-below (fit_run_at (shape_of d (Form.Fit k)) ms pts ks cs) _ (d.n - 1) fit-run)

    pub fit-counted : {s : Shape} → s ≡ shape_of d (Form.Fit k) → (l : List ℕ) {xs ys : List ℕ} → xs ≡ filled (λ (i : ℕ). 0) (d.n - 1) l
        → ys ≡ filled (λ (i : ℕ). length (fit_run_at s ms pts ks cs i)) (s.n - 1) xs → ys ≡ filled (run_length d ms pts ws) (d.n - 1) l
    fit-counted es l {xs} {ys} ex ey =
        let f : ℕ → ℕ = λ i. length (fit_run_at (shape_of d (Form.Fit k)) ms pts ks cs i) in
        let ez : ys ≡ filled (λ (i : ℕ). length (fit_run_at (shape_of d (Form.Fit k)) ms pts ks cs i)) (d.n - 1) xs = rw es at ey in
        ez ∙ ap (filled f (d.n - 1)) ex ∙ refilled f (λ (i : ℕ). 0) (d.n - 1) l
        ∙ filled-below f (run_length d ms pts ws) (d.n - 1) l (λ j g.
        let at_j = at-upto (fit_run_at (shape_of d (Form.Fit k)) ms pts ks cs) (d.n - 1) j [] g in
        sym (ap (λ (z : List (List (List Float))). length (get_or z j [])) full_runs ∙ ap length at_j))

    pub fit-points : {s : Shape} → s ≡ shape_of d (Form.Fit k) → flatten (upto (fit_run_at s ms pts ks cs) (s.n - 1)) ≡ flatten (drawn_runs d ms pts ws)
    fit-points es = rw es (ap flatten (sym full_runs))
