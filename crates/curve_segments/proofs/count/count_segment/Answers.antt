-- `curve_segments::count::count_segment`: the answers to its goals. Assumes nothing.
use mathlib.Core.Path.{refl}
use native.Mathlib.Omega.{arith}
use Rattle.curve_walk.proofs.Remembering.{stored_one, stored_as, cursor_one}
use Rattle.curve_segments.proofs.Segmenting.{from_in, stretch_of_points, counts-at, one-counted, walk_counted, lefts-one, lefts_walk}
use Rattle.curve_segments.proofs.count.count_segment.Goals as goal

pub overflow_add-result : goal.overflow_add-result
overflow_add-result c =
    let start = c in
    omega (arith, cursor_one start.requires.fresh_at.1)

pub returns-then-t1-t0 : goal.returns-then-t1-t0
returns-then-t1-t0 c =
    let at-remember = c in
    let at-if1 = at-remember in
    let start = at-if1 in
    let a = start.args in
    let short = at-if1.if-t1-t0.true in
    let one = lefts-one a.s a.ms.now a.pts.now a.ks.now a.cs.now a.i refl short in
    let stored = stored_one one refl at-remember.remember.ensures in
    record { counts_after = one-counted a.s a.ms.now a.pts.now a.ks.now a.cs.now a.i a.counts.now refl short; stored = stored }

pub overflow_mul-a : goal.overflow_mul-a
overflow_mul-a c =
    let start = c in
    omega (arith, from_in start.args.i start.args.s.n start.args.s.ch _ start.requires.fresh_at.0.here start.requires.segments.points)

pub overflow_add-b : goal.overflow_add-b
overflow_add-b c =
    let start = c in
    omega (arith, from_in start.args.i start.args.s.n start.args.s.ch _ start.requires.fresh_at.0.here start.requires.segments.points)

pub overflow_add-e : goal.overflow_add-e
overflow_add-e c =
    let start = c in
    omega (arith, from_in start.args.i start.args.s.n start.args.s.ch _ start.requires.fresh_at.0.here start.requires.segments.points)

pub offset_bounds-pts-a : goal.offset_bounds-pts-a
offset_bounds-pts-a c =
    let start = c in
    omega (arith, from_in start.args.i start.args.s.n start.args.s.ch _ start.requires.fresh_at.0.here start.requires.segments.points)

pub slice_bounds-count_walk-end : goal.slice_bounds-count_walk-end
slice_bounds-count_walk-end c =
    let start = c in
    omega (arith, from_in start.args.i start.args.s.n start.args.s.ch _ start.requires.fresh_at.0.here start.requires.segments.points)

pub offset_bounds-pts-b : goal.offset_bounds-pts-b
offset_bounds-pts-b c =
    let start = c in
    omega (arith, from_in start.args.i start.args.s.n start.args.s.ch _ start.requires.fresh_at.0.here start.requires.segments.points)

pub slice_bounds-count_walk-end-2 : goal.slice_bounds-count_walk-end-2
slice_bounds-count_walk-end-2 c =
    let start = c in
    omega (arith, from_in start.args.i start.args.s.n start.args.s.ch _ start.requires.fresh_at.0.here start.requires.segments.points)

pub count_walk-reached-requires : goal.count_walk-reached-requires
count_walk-reached-requires c =
    let start = c in
    record {
      stretch = stretch_of_points start.requires.segments start.args.i start.requires.fresh_at.0.here;
      counts = (
        counts-at
            start.requires.fresh_at.0,
        start.requires.fresh_at.1,
      );
    }

pub returns : goal.returns
returns c =
    let at-count-walk = c in
    let at-if1 = at-count-walk in
    let start = at-if1 in
    let a = start.args in
    let long = at-if1.if-t1-t0.false in
    record {
      counts_after = walk_counted a.s a.ms.now a.pts.now a.ks.now a.cs.now a.i a.counts.now refl long start.requires.segments.kind
          start.requires.fresh_at.0 at-count-walk.count_walk-reached.ensures.counted;
      stored = stored_as (lefts_walk a.s a.ms.now a.pts.now a.ks.now
          a.cs.now a.i refl long) at-count-walk.count_walk-reached.ensures.stored;
    }
