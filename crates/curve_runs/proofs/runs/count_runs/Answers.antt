-- `curve_runs::runs::count_runs`: the answers to its goals. Assumes nothing.
use mathlib.Core.Path.{ap, ◌∙◌}
use Rattle.curve_walk.specs.declared.Shape.{Shape}
use Rattle.curve_drawing.specs.Runs.{shape_of}
use Rattle.curve_runs.proofs.Running.{cleared, ready_as, fresh_of, spline_spans, spline-counted, empty-counted, fit_segments, fit-counted}
use Rattle.curve_runs.proofs.Recalling.{spline_remembers, empty_remembers, fit_remembers}
use Rattle.curve_runs.proofs.runs.count_runs.Goals as goal

pub count_spline-requires : goal.count_spline-requires
count_spline-requires c =
    let at-form = c in
    let at_clear = at-form in
    let at-shape-of = at_clear in
    let start = at-shape-of in
    let e = at-form.in-Basis.is in
    let ready = ready_as e start.requires.ready in
    let es = at-shape-of.shape_of-s.ensures ∙ ap (shape_of start.args.d) e in
    let wide = ap (λ (s : Shape). s.ch) es in
    let long = ap (λ (s : Shape). s.n) es in (
      spline_spans ready es,
      (
        rw wide ready.metric,
        fresh_of start.args.counts.now long start.requires.n_in_bounds
            (cleared _ _ start.requires.n_in_bounds (at_clear.fill.ensures.after (λ y e. e))),
      ),
    )

pub returns-then-k-lt2 : goal.returns-then-k-lt2
returns-then-k-lt2 c =
    let at-form2 = c in
    let at_clear = at-form2 in
    let start = at_clear in
    let a = start.args in
    let e = at-form2.in-Fit.is in
    let ready = ready_as e start.requires.ready in
    let few = c.if-k-lt2.true in
    let counted = empty-counted ready few a.counts.now (cleared _ _ start.requires.n_in_bounds (at_clear.fill.ensures.after (λ y e. e))) in
    record { counts_after = counted; remembers = empty_remembers (shape_of a.d a.form) a.ms.now a.pts.now a.ks.now a.cs.now e few _ }

pub count_segments-requires : goal.count_segments-requires
count_segments-requires c =
    let at-if1 = c in
    let at-form2 = at-if1 in
    let at_clear = at-form2 in
    let at-shape-of = at_clear in
    let start = at-shape-of in
    let e = at-form2.in-Fit.is in
    let ready = ready_as e start.requires.ready in
    let es = at-shape-of.shape_of-s.ensures ∙ ap (shape_of start.args.d) e in
    let long = ap (λ (s : Shape). s.n) es in
    record {
      segments = fit_segments ready at-if1.if-k-lt2.false es;
      fresh = fresh_of start.args.counts.now long start.requires.n_in_bounds
          (cleared _ _ start.requires.n_in_bounds (at_clear.fill.ensures.after (λ y e. e)));
    }

pub returns-in-Basis : goal.returns-in-Basis
returns-in-Basis c =
    let at-count-spline = c in
    let at-form = at-count-spline in
    let at_clear = at-form in
    let at-shape-of = at_clear in
    let start = at-shape-of in
    let a = start.args in
    let e = at-form.in-Basis.is in
    let ready = ready_as e start.requires.ready in
    let es = at-shape-of.shape_of-s.ensures ∙ ap (shape_of start.args.d) e in
    let shaped = at-shape-of.shape_of-s.ensures in
    record {
      counts_after =
          spline-counted ready es a.counts.now start.requires.n_in_bounds (cleared _ _ start.requires.n_in_bounds (at_clear.fill.ensures.after (λ y e. e)))
          at-count-spline.count_spline.ensures.counts_after;
      remembers = spline_remembers (shape_of a.d a.form) a.ms.now a.pts.now a.ks.now a.cs.now
          shaped e a.lefts.now at-count-spline.count_spline.ensures.lefts_after;
    }

pub returns-else-k-lt2 : goal.returns-else-k-lt2
returns-else-k-lt2 c =
    let at-count-segments = c in
    let at-if1 = at-count-segments in
    let at-form2 = at-if1 in
    let at_clear = at-form2 in
    let at-shape-of = at_clear in
    let start = at-shape-of in
    let a = start.args in
    let e = at-form2.in-Fit.is in
    let ready = ready_as e start.requires.ready in
    let es = at-shape-of.shape_of-s.ensures ∙ ap (shape_of start.args.d) e in
    let some = at-if1.if-k-lt2.false in
    let shaped = at-shape-of.shape_of-s.ensures in
    record {
      counts_after =
          fit-counted ready some es a.counts.now (cleared _ _ start.requires.n_in_bounds (at_clear.fill.ensures.after (λ y e. e)))
          at-count-segments.count_segments.ensures.counts_after;
      remembers = fit_remembers (shape_of a.d a.form) a.ms.now a.pts.now a.ks.now a.cs.now shaped e some a.lefts.now
          at-count-segments.count_segments.ensures.lefts_after;
    }
