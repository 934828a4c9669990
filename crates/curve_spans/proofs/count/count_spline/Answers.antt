-- `curve_spans::count::count_spline`: the answers to its goals. Assumes nothing.
use mathlib.Core.Path.{◌≡◌, refl, sym, ap, ◌∙◌}
use Prim.Native.Nat.{ℕ, ◌≤◌, ◌-◌}
use native.Mathlib.Omega.{arith}
use lib.Seq.{sets}
use Rattle.layout.specs.Layout.{most_points}
use Rattle.curve_walk.specs.Walks.{eval_of, own_of, counted}
use Rattle.curve_walk.specs.Forms.{basis-tables}
use Rattle.curve_walk.specs.Points.{point-is, point-length, point-room}
use Rattle.curve_walk.proofs.Remembering.{stored_as, stored_length}
use Rattle.curve_spans.specs.Stretches.{span_samples}
use Rattle.curve_spans.specs.Lefts.{span_lefts}
use Rattle.curve_walk.specs.Lefts.{joined}
use Rattle.bspline_tables.specs.Spans.{whole_in}
use Rattle.curve_spans.proofs.Spanning.{zero-time, first-point, stretch_of, span-lefts, span_few, count_none, count-more, count_room_lem}
use Rattle.curve_walk.proofs.Joining.{stored_start, stored_more, cursor_part}
use Rattle.curve_spans.proofs.count.count_spline.Goals as goal

pub overflow_sub-spans : goal.overflow_sub-spans
overflow_sub-spans c =
    let start = c in
    omega (arith, (basis-tables start.args.s start.requires.0.form start.requires.0.tables).under)

pub point_at-prev-requires : goal.point_at-prev-requires
point_at-prev-requires c = c.requires.0.tables

pub loop-j-init : goal.loop-j-init
loop-j-init c =
    let a = c.args in
    let ev = eval_of a.s a.ks.now a.cs.now in
    let lefts = span_lefts (eval_of a.s a.ks.now a.cs.now) a.ms.now a.s.tol in
    let first = first-point a.s _ _ _ c.point_at-prev.ensures in
    (zero-time, (first, (count_none ev _ _ _ _, stored_start lefts)))

pub overflow_add-u : goal.overflow_add-u
overflow_add-u c =
    let start = c in
    omega (arith, (basis-tables start.args.s start.requires.0.form start.requires.0.tables).few, c.loop-j-test.true)

pub int_to_float-u : goal.int_to_float-u
int_to_float-u c =
    let at-loop-test = c in
    let start = at-loop-test in
    let spline = basis-tables start.args.s start.requires.0.form start.requires.0.tables in
    whole_in _ (omega (arith, spline.few, at-loop-test.loop-j-test.true, spline.some))

pub point_at-next-requires : goal.point_at-next-requires
point_at-next-requires c = c.requires.0.tables

pub slice_bounds-prev-end : goal.slice_bounds-prev-end
slice_bounds-prev-end c =
    let at-loop = c in
    let start = at-loop in
    let narrow = start.requires.0.tables.narrow in
    omega (arith, narrow, point-room _ _ at-loop.loop-j.invariant.1.0 narrow)

pub slice_bounds-count_walk-end : goal.slice_bounds-count_walk-end
slice_bounds-count_walk-end c = sym (point-length _ _ c.loop-j.invariant.1.0)

pub slice_bounds-next-end : goal.slice_bounds-next-end
slice_bounds-next-end c =
    let start = c in
    omega (arith, start.requires.0.tables.narrow)

pub slice_bounds-count_walk-end-in-loop-j : goal.slice_bounds-count_walk-end-in-loop-j
slice_bounds-count_walk-end-in-loop-j c = sym (point-length _ _ c.point_at-next.ensures)

pub count_walk-at-requires : goal.count_walk-at-requires
count_walk-at-requires c =
    let at-point-at2 = c in
    let at-loop-test = at-point-at2 in
    let at-loop = at-loop-test in
    let start = at-loop in
    let a = start.args in
    let pre = start.requires in
    let inv = at-loop.loop-j.invariant.1 in
    let ev = eval_of a.s a.ks.now a.cs.now in
    let spline = basis-tables start.args.s start.requires.0.form start.requires.0.tables in
    let stretch = stretch_of pre.0.tables pre.1.0 (point-length _ _ inv.0) (point-length _ _ at-point-at2.point_at-next.ensures) in
    let few : at-loop.loop-j.j ≤ most_points = omega (arith, spline.few, at-loop-test.loop-j-test.true) in
    let counts = count_room_lem ev _ _ _ _ (omega (arith, spline.some, spline.under)) few pre.1.1 inv.1.0 in
    let lefts = span_lefts (eval_of a.s a.ks.now a.cs.now) a.ms.now a.s.tol in
    record { stretch = stretch; counts = (counts, cursor_part lefts (span_few ev a.ms.now a.s.tol) at-loop.loop-j.j few inv.1.1.end) }

pub loop-j-preserved : goal.loop-j-preserved
loop-j-preserved c =
    let at-count-walk = c in
    let at-point-at2 = at-count-walk in
    let at-loop-test = at-point-at2 in
    let at-loop = at-loop-test in
    let start = at-loop in
    let a = start.args in
    let inv = at-loop.loop-j.invariant in
    let ev = eval_of a.s a.ks.now a.cs.now in
    let lefts = span_lefts (eval_of a.s a.ks.now a.cs.now) a.ms.now a.s.tol in
    let et = inv.0 in
    let prev = point-is _ _ inv.1.0 in
    let next = at-point-at2.point_at-next.ensures in
    let counted = count-more ev _ _ _ _ _ et refl prev (point-is _ _ next) inv.1.1.0 at-count-walk.count_walk-at.ensures.counted in
    let walked = span-lefts ev _ _ at-loop.loop-j.j _ _ et refl prev (point-is _ _ next) in
    let stored = stored_more lefts at-loop.loop-j.j inv.1.1.1 (stored_as walked at-count-walk.count_walk-at.ensures.stored) in
    (refl, (next, (counted, stored)))

pub shape_of-lefts : goal.shape_of-lefts
shape_of-lefts c = stored_length c.loop-j.invariant.1.1.1

pub returns : goal.returns
returns c =
    let at-loop = c in
    let start = at-loop in
    let a = start.args in
    let inv = at-loop.loop-j.invariant in
    let ev = eval_of a.s a.ks.now a.cs.now in
    let e : at-loop.loop-j.j ≡ start.args.s.n - start.args.degree = omega (arith, c.loop-j-test.false) in
    record {
      counts_after = inv.1.1.0.is ∙ ap (λ (z : ℕ). counted (own_of a.s a.ks.now) 1 (span_samples ev a.ms.now a.s.tol z) a.counts.now) e;
      lefts_after = inv.1.1.1.is ∙ ap (λ (z : ℕ). sets a.lefts.now 0 (joined (span_lefts ev a.ms.now a.s.tol) z)) e;
    }
