-- `curve_spans::write::write_spline`: the answers to its goals. Assumes nothing.
use mathlib.Core.Path.{◌≡◌, refl, sym, ap, ◌∙◌}
use Prim.Native.Nat.{ℕ, ◌≤◌, ◌-◌, ◌+◌}
use mathlib.Core.List.{List}
use native.Mathlib.Omega.{arith}
use lib.ListN.{length}
use Rattle.floats.specs.Lists.{spliced}
use Rattle.layout.specs.Layout.{most_points}
use Rattle.curve_walk.specs.Walks.{encode, eval_of, points_of}
use Rattle.curve_walk.specs.Forms.{basis-tables}
use Rattle.curve_walk.specs.Points.{point-is, point-length, point-room}
use Rattle.curve_walk.proofs.Remembering.{recalls_as}
use Rattle.curve_spans.specs.Stretches.{span_samples}
use Rattle.curve_spans.specs.Lefts.{span_lefts}
use Rattle.bspline_tables.specs.Spans.{whole_in}
use Rattle.curve_spans.proofs.Spanning.{zero-time, first-point, stretch_of, span-lefts, span_few}
use Rattle.curve_spans.proofs.Spanning.{room-more, write_none, write_room, write_more}
use Rattle.curve_walk.proofs.Joining.{passed_none, passed-more, recalls_part, cursor_part}
use Rattle.curve_spans.proofs.write.write_spline.Goals as goal

pub overflow_sub-spans : goal.overflow_sub-spans
overflow_sub-spans c =
    let start = c in
    omega (arith, (basis-tables start.args.s start.requires.spans.0.form start.requires.spans.0.tables).under)

pub point_at-prev-requires : goal.point_at-prev-requires
point_at-prev-requires c = c.requires.spans.0.tables

pub loop-j-init : goal.loop-j-init
loop-j-init c =
    let a = c.args in
    let ev = eval_of a.s a.ks.now a.cs.now in
    let lefts = span_lefts (eval_of a.s a.ks.now a.cs.now) a.ms.now a.s.tol in
    let first = first-point a.s _ _ _ c.point_at-prev.ensures in
    (zero-time, (first, (write_none ev _ _ _, passed_none lefts)))

pub overflow_add-u : goal.overflow_add-u
overflow_add-u c =
    let start = c in
    omega (arith, (basis-tables start.args.s start.requires.spans.0.form start.requires.spans.0.tables).few, c.loop-j-test.true)

pub int_to_float-u : goal.int_to_float-u
int_to_float-u c =
    let at-loop-test = c in
    let start = at-loop-test in
    let spline = basis-tables start.args.s start.requires.spans.0.form start.requires.spans.0.tables in
    whole_in _ (omega (arith, spline.few, at-loop-test.loop-j-test.true, spline.some))

pub point_at-next-requires : goal.point_at-next-requires
point_at-next-requires c = c.requires.spans.0.tables

pub slice_bounds-prev-end : goal.slice_bounds-prev-end
slice_bounds-prev-end c =
    let at-loop = c in
    let start = at-loop in
    let narrow = start.requires.spans.0.tables.narrow in
    omega (arith, narrow, point-room _ _ at-loop.loop-j.invariant.1.0 narrow)

pub slice_bounds-write_walk-end : goal.slice_bounds-write_walk-end
slice_bounds-write_walk-end c = sym (point-length _ _ c.loop-j.invariant.1.0)

pub slice_bounds-next-end : goal.slice_bounds-next-end
slice_bounds-next-end c =
    let start = c in
    omega (arith, start.requires.spans.0.tables.narrow)

pub slice_bounds-write_walk-end-in-loop-j : goal.slice_bounds-write_walk-end-in-loop-j
slice_bounds-write_walk-end-in-loop-j c = sym (point-length _ _ c.point_at-next.ensures)

pub write_walk-at-requires : goal.write_walk-at-requires
write_walk-at-requires c =
    let at-point-at2 = c in
    let at-loop-test = at-point-at2 in
    let at-loop = at-loop-test in
    let start = at-loop in
    let a = start.args in
    let inv = at-loop.loop-j.invariant in
    let more = at-loop-test.loop-j-test.true in
    let ev = eval_of a.s a.ks.now a.cs.now in
    let lefts = span_lefts (eval_of a.s a.ks.now a.cs.now) a.ms.now a.s.tol in
    let spline = basis-tables start.args.s start.requires.spans.0.form start.requires.spans.0.tables in
    let prev = point-is _ _ inv.1.0 in
    let next = point-is _ _ at-point-at2.point_at-next.ensures in
    let stretch = stretch_of start.requires.spans.0.tables start.requires.spans.1 (point-length _ _ inv.1.0) (point-length _ _
    at-point-at2.point_at-next.ensures) in
    let part = recalls_part lefts at-loop.loop-j.j _ more inv.1.1.1 start.requires.recalls in
    let memory = recalls_as (span-lefts ev _ _ at-loop.loop-j.j _ _ inv.0 refl prev next) part in
    let few : at-loop.loop-j.j ≤ most_points = omega (arith, spline.few, more) in
    let cursor = cursor_part lefts (span_few ev a.ms.now a.s.tol) at-loop.loop-j.j few inv.1.1.1 in
    let fits = room-more ev _ _ a.out.now at-loop.loop-j.j _ more start.requires.cs_in_bounds in
    record { stretch = stretch; recalls = (memory, cursor); p1_in_bounds = write_room ev _ _ _ _ _ inv.0 refl prev next fits inv.1.1.0 }

pub loop-j-preserved : goal.loop-j-preserved
loop-j-preserved c =
    let at-write-walk = c in
    let at-point-at2 = at-write-walk in
    let at-loop-test = at-point-at2 in
    let at-loop = at-loop-test in
    let start = at-loop in
    let a = start.args in
    let inv = at-loop.loop-j.invariant in
    let more = at-loop-test.loop-j-test.true in
    let ev = eval_of a.s a.ks.now a.cs.now in
    let lefts = span_lefts (eval_of a.s a.ks.now a.cs.now) a.ms.now a.s.tol in
    let et = inv.0 in
    let prev = point-is _ _ inv.1.0 in
    let next = at-point-at2.point_at-next.ensures in
    let fits = room-more ev _ _ a.out.now at-loop.loop-j.j _ more start.requires.cs_in_bounds in
    let written = write_more ev _ _ _ _ _ et refl prev (point-is _ _ next) fits inv.1.1.0 at-write-walk.write_walk-at.ensures.written in
    let walked = span-lefts ev _ _ at-loop.loop-j.j _ _ et refl prev (point-is _ _ next) in
    let passed = at-write-walk.write_walk-at.ensures.sample_value ∙ ap (λ (z : List ℕ). at-loop.loop-j.at.sample + length z) (sym walked) in
    (refl, (next, (written, passed-more lefts at-loop.loop-j.j inv.1.1.1 passed)))

pub returns : goal.returns
returns c =
    let at-loop = c in
    let start = at-loop in
    let a = start.args in
    let inv = at-loop.loop-j.invariant in
    let ev = eval_of a.s a.ks.now a.cs.now in
    let e : at-loop.loop-j.j ≡ start.args.s.n - start.args.degree = omega (arith, c.loop-j-test.false) in
    inv.1.1.0.is ∙ ap (λ (z : ℕ). spliced a.out.now 0 (encode (points_of (span_samples ev a.ms.now a.s.tol z)))) e
