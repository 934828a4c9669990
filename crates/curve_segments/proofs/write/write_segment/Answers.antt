-- `curve_segments::write::write_segment`: the answers to its goals. Assumes nothing.
use mathlib.Core.Path.{refl, sym, ap, ◌∙◌, subst}
use mathlib.Core.List.{List}
use Prim.Native.Nat.{ℕ, ◌≤◌, ◌+◌}
use native.Mathlib.Omega.{arith}
use lib.ListN.{length}
use lib.Ieee.{Float}
use Rattle.curve_walk.specs.Walks.{encode}
use Rattle.curve_walk.specs.Writing.{one-room, written_as}
use Rattle.curve_walk.proofs.Remembering.{recalls_as, cursor_one, passed-one}
use Rattle.curve_segments.proofs.Segmenting.{from_in, stretch_of_points, run-one, run_walk, lefts-one, lefts_walk}
use Rattle.curve_segments.proofs.write.write_segment.Goals as goal

pub overflow_mul-a : goal.overflow_mul-a
overflow_mul-a c =
    let start = c in
    omega (arith, from_in start.args.i start.args.s.n start.args.s.ch _ start.requires.i_bound.0 start.requires.segments.points)

pub overflow_add-b : goal.overflow_add-b
overflow_add-b c =
    let start = c in
    omega (arith, from_in start.args.i start.args.s.n start.args.s.ch _ start.requires.i_bound.0 start.requires.segments.points)

pub overflow_add-e : goal.overflow_add-e
overflow_add-e c =
    let start = c in
    omega (arith, from_in start.args.i start.args.s.n start.args.s.ch _ start.requires.i_bound.0 start.requires.segments.points)

pub offset_bounds-pts-b : goal.offset_bounds-pts-b
offset_bounds-pts-b c =
    let start = c in
    omega (arith, from_in start.args.i start.args.s.n start.args.s.ch _ start.requires.i_bound.0 start.requires.segments.points)

pub slice_bounds-put_sample-end : goal.slice_bounds-put_sample-end
slice_bounds-put_sample-end c =
    let start = c in
    omega (arith, from_in start.args.i start.args.s.n start.args.s.ch _ start.requires.i_bound.0 start.requires.segments.points)

pub put_sample-requires : goal.put_sample-requires
put_sample-requires c =
    let at-if1 = c in
    let start = at-if1 in
    let a = start.args in
    let run = run-one a.s a.ms.now a.pts.now a.ks.now a.cs.now a.i refl at-if1.if-t1-t0.true in
    (one-room _ a.out.now _ run start.requires.i_bound.1, cursor_one start.requires.recalls.1)

pub returns-then-t1-t0 : goal.returns-then-t1-t0
returns-then-t1-t0 c =
    let at-put-sample = c in
    let at-if1 = at-put-sample in
    let start = at-if1 in
    let a = start.args in
    let short = at-if1.if-t1-t0.true in
    let put = at-put-sample.put_sample.ensures in
    let run = run-one a.s a.ms.now a.pts.now a.ks.now a.cs.now a.i refl short in
    let lefts = lefts-one a.s a.ms.now a.pts.now a.ks.now a.cs.now a.i refl short in
    record { written = written_as run put.0; sample_value = passed-one a.at.sample lefts put.1 }

pub offset_bounds-pts-a : goal.offset_bounds-pts-a
offset_bounds-pts-a c =
    let start = c in
    omega (arith, from_in start.args.i start.args.s.n start.args.s.ch _ start.requires.i_bound.0 start.requires.segments.points)

pub slice_bounds-write_walk-end : goal.slice_bounds-write_walk-end
slice_bounds-write_walk-end c =
    let start = c in
    omega (arith, from_in start.args.i start.args.s.n start.args.s.ch _ start.requires.i_bound.0 start.requires.segments.points)

pub offset_bounds-pts-b-2 : goal.offset_bounds-pts-b-2
offset_bounds-pts-b-2 c =
    let start = c in
    omega (arith, from_in start.args.i start.args.s.n start.args.s.ch _ start.requires.i_bound.0 start.requires.segments.points)

pub slice_bounds-write_walk-end-2 : goal.slice_bounds-write_walk-end-2
slice_bounds-write_walk-end-2 c =
    let start = c in
    omega (arith, from_in start.args.i start.args.s.n start.args.s.ch _ start.requires.i_bound.0 start.requires.segments.points)

pub write_walk-requires : goal.write_walk-requires
write_walk-requires c =
    let at-if1 = c in
    let start = at-if1 in
    let a = start.args in
    let long = at-if1.if-t1-t0.false in
    let memory = recalls_as (lefts_walk a.s a.ms.now a.pts.now a.ks.now a.cs.now a.i refl long) start.requires.recalls.0 in
    let run = run_walk a.s a.ms.now a.pts.now a.ks.now a.cs.now a.i refl long in
    let room = subst (λ (z : List (List Float)). a.at.word + length (encode z) ≤ length a.out.now) run start.requires.i_bound.1 in
    record {
      stretch = stretch_of_points start.requires.segments a.i start.requires.i_bound.0;
      recalls = (memory, start.requires.recalls.1);
      p1_in_bounds = room;
    }

pub returns : goal.returns
returns c =
    let at-write-walk = c in
    let at-if1 = at-write-walk in
    let start = at-if1 in
    let a = start.args in
    let long = at-if1.if-t1-t0.false in
    let lefts = lefts_walk a.s a.ms.now a.pts.now a.ks.now a.cs.now a.i refl long in
    record {
      written = written_as (run_walk a.s a.ms.now a.pts.now a.ks.now a.cs.now a.i refl long) at-write-walk.write_walk.ensures.written;
      sample_value = at-write-walk.write_walk.ensures.sample_value ∙ ap (λ (z : List ℕ). a.at.sample + length z) (sym lefts);
    }
