-- `curve_count::+count_walk`: the answers to its goals. Assumes nothing.
use mathlib.Core.Path.{sym, ◌∙◌}
use native.Mathlib.Omega.{arith}
use Rattle.curve_walk.specs.Walks.{eval_of}
use Rattle.curve_walk.specs.Points.{point-is, point-length, point-room}
use Rattle.curve_walk.specs.Counting.{counted-zero, counted-flat, counted-halves, counts-one, counts-half, counts-other}
use Rattle.curve_walk.proofs.Remembering.{stored_zero, stored_flat, stored_halves, cursor_one, cursor_half, cursor_other}
use Rattle.curve_walk.specs.Forms.{stretch-at}
use Rattle.curve_count.proofs.Owners.{owners_of}
use Rattle.curve_count.proofs.+count_walk.Goals as goal

pub count_sample-requires : goal.count_sample-requires
count_sample-requires t c =
    let start = c in
    record {
      owners = owners_of start.requires.stretch.tables _ start.requires.counts.0.owned;
      counts = (
        counts-one start.requires.counts.0,
        (
          omega
              arith,
          cursor_one start.requires.counts.1,
        ),
      );
    }

pub shape_of-counts-then-left-eq0 : goal.shape_of-counts-then-left-eq0
shape_of-counts-then-left-eq0 t c = c.count_sample.auto.counts

pub shape_of-lefts-then-left-eq0 : goal.shape_of-lefts-then-left-eq0
shape_of-lefts-then-left-eq0 t c = c.count_sample.auto.lefts

pub returns-then-left-eq0 : goal.returns-then-left-eq0
returns-then-left-eq0 t c =
    let at-count-sample = c in
    let at-if1 = at-count-sample in
    let start = at-if1 in
    let ev = eval_of start.args.s start.args.ks.now start.args.cs.now in
    record {
      counted = counted-zero ev _ _ _ _ _ _ _ at-if1.if-left-eq0.true at-count-sample.count_sample.ensures.bumped;
      stored = stored_zero ev _ _
          _ _ _ _ _ at-if1.if-left-eq0.true at-count-sample.count_sample.ensures.sample_value;
    }

pub point_at-pm-requires : goal.point_at-pm-requires
point_at-pm-requires t c = c.requires.stretch.tables

pub slice_bounds-pm-end : goal.slice_bounds-pm-end
slice_bounds-pm-end t c = omega (arith, c.requires.stretch.tables.narrow)

pub slice_bounds-is_flat-end : goal.slice_bounds-is_flat-end
slice_bounds-is_flat-end t c = sym (point-length _ _ c.point_at-pm.ensures)

pub is_flat-requires : goal.is_flat-requires
is_flat-requires t c =
    let at-point-at = c in
    let start = at-point-at in
    record { stretch = start.requires.stretch; pm_len = point-length _ _ at-point-at.point_at-pm.ensures }

pub count_sample-requires-then-is_flat : goal.count_sample-requires-then-is_flat
count_sample-requires-then-is_flat t c =
    let start = c in
    record {
      owners = owners_of start.requires.stretch.tables _ start.requires.counts.0.owned;
      counts = (
        counts-one start.requires.counts.0,
        (start.requires.counts.1.low, cursor_one start.requires.counts.1),
      );
    }

pub shape_of-counts-then-is_flat : goal.shape_of-counts-then-is_flat
shape_of-counts-then-is_flat t c = c.count_sample-then-is_flat.auto.counts

pub shape_of-lefts-then-is_flat : goal.shape_of-lefts-then-is_flat
shape_of-lefts-then-is_flat t c = c.count_sample-then-is_flat.auto.lefts

pub returns-then-is_flat : goal.returns-then-is_flat
returns-then-is_flat t c =
    let at-count-sample2 = c in
    let at-if2 = at-count-sample2 in
    let at-is-flat = at-if2 in
    let at-point-at = at-is-flat in
    let start = at-point-at in
    let ev = eval_of start.args.s start.args.ks.now start.args.cs.now in
    let pm = point-is _ _ at-point-at.point_at-pm.ensures in
    let flat = at-is-flat.is_flat.ensures in
    record {
      counted = counted-flat ev _ _ _ _ _ _ _ pm flat at-if2.if-is_flat.true at-count-sample2.count_sample-then-is_flat.ensures.bumped;
      stored
          = stored_flat ev _ _ _ _ _ _ _ pm flat at-if2.if-is_flat.true at-count-sample2.count_sample-then-is_flat.ensures.sample_value;
    }

pub overflow_sub-less : goal.overflow_sub-less
overflow_sub-less t c = omega (arith, c.if-left-eq0.false)

pub slice_bounds-pm-end-2 : goal.slice_bounds-pm-end-2
slice_bounds-pm-end-2 t c =
    let start = c in
    omega (arith, start.requires.stretch.tables.narrow)

pub slice_bounds-count_walk-end : goal.slice_bounds-count_walk-end
slice_bounds-count_walk-end t c = sym (point-length _ _ c.point_at-pm.ensures)

pub count_walk-reached-requires : goal.count_walk-reached-requires
count_walk-reached-requires t c =
    let at-point-at = c in
    let at-if1 = at-point-at in
    let start = at-if1 in
    let some = at-if1.if-left-eq0.false in
    let middle = point-length _ _ at-point-at.point_at-pm.ensures in (
      omega (arith, some, start.requires-raw.0),
      (
        stretch-at start.requires.stretch start.requires.stretch.first middle,
        (
          counts-half
              start.requires.counts.0 some,
          cursor_half start.requires.counts.1 some,
        ),
      ),
    )

pub slice_bounds-pm-end-3 : goal.slice_bounds-pm-end-3
slice_bounds-pm-end-3 t c =
    let at-point-at = c in
    let start = at-point-at in
    let narrow = start.requires.stretch.tables.narrow in
    omega (arith, narrow, point-room _ _ at-point-at.point_at-pm.ensures narrow)

pub count_walk-requires : goal.count_walk-requires
count_walk-requires t c =
    let at-count-walk = c in
    let at-point-at = at-count-walk in
    let at-if1 = at-point-at in
    let start = at-if1 in
    let ev = eval_of start.args.s start.args.ks.now start.args.cs.now in
    let some = at-if1.if-left-eq0.false in
    let middle = point-length _ _ at-point-at.point_at-pm.ensures in
    let counts = counts-other _ ev _ _ _ _ _ _ start.requires.counts.0 some at-count-walk.count_walk-reached.ensures.counted in
    let cursor = cursor_other ev _ _ _ _ _ _ start.requires.counts.1 some at-count-walk.count_walk-reached.ensures.stored.end in
    (omega (arith, some, start.requires-raw.0), (stretch-at start.requires.stretch middle start.requires.stretch.end, (counts, cursor)))

pub shape_of-counts : goal.shape_of-counts
shape_of-counts t c =
    let at-count-walk2 = c in
    let at-count-walk = at-count-walk2 in
    at-count-walk2.count_walk.auto.counts ∙ at-count-walk.count_walk-reached.auto.counts

pub shape_of-lefts : goal.shape_of-lefts
shape_of-lefts t c =
    let at-count-walk2 = c in
    let at-count-walk = at-count-walk2 in
    at-count-walk2.count_walk.auto.lefts ∙ at-count-walk.count_walk-reached.auto.lefts

pub returns : goal.returns
returns t c =
    let at-count-walk2 = c in
    let at-count-walk = at-count-walk2 in
    let at-if2 = at-count-walk in
    let at-is-flat = at-if2 in
    let at-point-at = at-is-flat in
    let at-if1 = at-point-at in
    let start = at-if1 in
    let ev = eval_of start.args.s start.args.ks.now start.args.cs.now in
    let some = at-if1.if-left-eq0.false in
    let pm = point-is _ _ at-point-at.point_at-pm.ensures in
    let flat = at-is-flat.is_flat.ensures in
    record {
      counted = counted-halves ev _ _ _ _ _ _ _ some pm flat at-if2.if-is_flat.false at-count-walk.count_walk-reached.ensures.counted
          at-count-walk2.count_walk.ensures.counted;
      stored = stored_halves ev _ _ _ _ _ _ _ some pm flat at-if2.if-is_flat.false
          at-count-walk.count_walk-reached.ensures.stored at-count-walk2.count_walk.ensures.stored;
    }
