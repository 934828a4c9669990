-- `curve_runs::runs::write_runs`: the answers to its goals. Assumes nothing.
use mathlib.Core.Path.{sym, ap, ◌∙◌, subst}
use mathlib.Core.List.{List}
use Prim.Native.Nat.{◌≤◌}
use lib.ListN.{length}
use lib.Ieee.{Float}
use Rattle.floats.specs.Lists.{spliced}
use Rattle.curve_walk.specs.declared.Shape.{Shape}
use Rattle.curve_walk.specs.Walks.{encode}
use Rattle.curve_drawing.specs.Runs.{shape_of}
use Rattle.curve_runs.proofs.Running.{ready_as, spline_spans, spline-points, empty-written, fit_segments, fit-points}
use Rattle.curve_runs.proofs.Recalling.{spline_recalls, fit_recalls}
use Rattle.curve_runs.proofs.runs.write_runs.Goals as goal

pub write_spline-requires : goal.write_spline-requires
write_spline-requires c =
    let at-form = c in
    let at-shape-of = at-form in
    let start = at-shape-of in
    let a = start.args in
    let e = at-form.in-Basis.is in
    let ready = ready_as e start.requires.ready in
    let es = at-shape-of.shape_of-s.ensures ∙ ap (shape_of start.args.d) e in
    let wide = ap (λ (s : Shape). s.ch) es in
    let memory = spline_recalls (shape_of a.d a.form) a.ms.now a.pts.now a.ks.now a.cs.now at-shape-of.shape_of-s.ensures e start.requires.remembers in
    let room = subst (λ (z : List (List Float)). length (encode z) ≤ length a.out.now) (sym (spline-points ready es)) start.requires.ws_in_bounds in
    record { spans = (spline_spans ready es, rw wide ready.metric); recalls = memory; cs_in_bounds = room }

pub returns-then-k-lt2 : goal.returns-then-k-lt2
returns-then-k-lt2 c =
    let at-form2 = c in
    let start = at-form2 in
    empty-written (ready_as at-form2.in-Fit.is start.requires.ready) c.if-k-lt2.true start.args.out.now

pub write_segments-requires : goal.write_segments-requires
write_segments-requires c =
    let at-if1 = c in
    let at-form2 = at-if1 in
    let at-shape-of = at-form2 in
    let start = at-shape-of in
    let a = start.args in
    let e = at-form2.in-Fit.is in
    let ready = ready_as e start.requires.ready in
    let es = at-shape-of.shape_of-s.ensures ∙ ap (shape_of start.args.d) e in
    let some = at-if1.if-k-lt2.false in
    let memory = fit_recalls (shape_of a.d a.form) a.ms.now a.pts.now a.ks.now a.cs.now at-shape-of.shape_of-s.ensures e some start.requires.remembers in
    let room = subst (λ (z : List (List Float)). length (encode z) ≤ length a.out.now) (sym (fit-points ready some es)) start.requires.ws_in_bounds in
    record { segments = fit_segments ready some es; recalls = memory; n_in_bounds = room }

pub returns-in-Basis : goal.returns-in-Basis
returns-in-Basis c =
    let at-write-spline = c in
    let at-form = at-write-spline in
    let at-shape-of = at-form in
    let start = at-shape-of in
    let e = at-form.in-Basis.is in
    let ready = ready_as e start.requires.ready in
    let es = at-shape-of.shape_of-s.ensures ∙ ap (shape_of start.args.d) e in
    at-write-spline.write_spline.ensures ∙ ap (λ (z : List (List Float)). spliced start.args.out.now 0 (encode z)) (spline-points ready es)

pub returns-else-k-lt2 : goal.returns-else-k-lt2
returns-else-k-lt2 c =
    let at-write-segments = c in
    let at-if1 = at-write-segments in
    let at-form2 = at-if1 in
    let at-shape-of = at-form2 in
    let start = at-shape-of in
    let e = at-form2.in-Fit.is in
    let ready = ready_as e start.requires.ready in
    let es = at-shape-of.shape_of-s.ensures ∙ ap (shape_of start.args.d) e in
    let written = at-write-segments.write_segments.ensures in
    written ∙ ap (λ (z : List (List Float)). spliced start.args.out.now 0 (encode z)) (fit-points ready at-if1.if-k-lt2.false es)
