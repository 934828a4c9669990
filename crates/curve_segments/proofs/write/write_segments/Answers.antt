-- `curve_segments::write::write_segments`: the answers to its goals. Assumes nothing.
use mathlib.Core.Path.{◌≡◌, sym, ap, ◌∙◌, subst}
use mathlib.Core.List.{List}
use Prim.Native.Nat.{ℕ, ◌≤◌, ◌-◌, ◌+◌}
use native.Mathlib.Omega.{arith}
use lib.ListN.{length}
use lib.Ieee.{Float}
use Rattle.floats.specs.Lists.{upto, flatten, spliced}
use Rattle.layout.specs.Layout.{most_points}
use Rattle.curve_walk.specs.Walks.{encode}
use Rattle.curve_walk.specs.Writing.{written_as}
use Rattle.curve_walk.proofs.Remembering.{recalls_as}
use Rattle.curve_segments.specs.Stretches.{fit_run_at}
use Rattle.curve_segments.specs.Lefts.{fit_lefts}
use Rattle.curve_segments.proofs.Segmenting.{runs_none, run_room, run-written, lefts-few}
use Rattle.curve_segments.proofs.Hinting.{pieces_of, count_as, segments_as, run_as, lefts_as}
use Rattle.curve_walk.proofs.Joining.{passed_none, passed-more, recalls_part, cursor_part}
use Rattle.curve_segments.proofs.write.write_segments.Goals as goal

pub loop-i-init : goal.loop-i-init
loop-i-init c =
    let a = c.args in
    let none = runs_none (fit_run_at a.s a.ms.now a.pts.now a.ks.now a.cs.now) _ in
    (none, passed_none (fit_lefts a.s a.ms.now a.pts.now a.ks.now a.cs.now))

pub at_stretch-here-requires : goal.at_stretch-here-requires
at_stretch-here-requires c =
    let pre = c.requires.segments in
    (pieces_of _ pre.1 pre.0, omega (arith, c.loop-i-test.true, pre.0.tables.few, pre.0.tables.knots))

pub write_segment-at-requires : goal.write_segment-at-requires
write_segment-at-requires c =
    let at-at-stretch = c in
    let at-loop-test = at-at-stretch in
    let at-loop = at-loop-test in
    let start = at-loop in
    let a = start.args in
    let inv = at-loop.loop-i.invariant in
    let i = at-loop.loop-i.i in
    let more = at-loop-test.loop-i-test.true in
    let here = at-at-stretch.at_stretch-here.ensures in
    let run = run_as a.s start.requires.segments.1 here a.ms.now a.pts.now a.ks.now a.cs.now i in
    let lefts = lefts_as a.s start.requires.segments.1 here a.ms.now a.pts.now a.ks.now a.cs.now i in
    let memory = recalls_as (sym lefts) (recalls_part (fit_lefts a.s a.ms.now a.pts.now a.ks.now a.cs.now) i _ more inv.1 start.requires.recalls) in
    let few : at-loop.loop-i.i ≤ most_points = omega (arith, more, start.requires.segments.0.tables.few) in
    let few-lefts = lefts-few a.s a.ms.now a.pts.now a.ks.now a.cs.now in
    let cursor = cursor_part (fit_lefts a.s a.ms.now a.pts.now a.ks.now a.cs.now) few-lefts i few inv.1 in
    let fits = run_room (fit_run_at a.s a.ms.now a.pts.now a.ks.now a.cs.now) i _ more start.requires.n_in_bounds inv.0 in
    let room = subst (λ (z : List (List Float)). at-loop.loop-i.at.word + length (encode z) ≤ length at-loop.loop-i.out) (sym run) fits in
    record {
      segments = segments_as _ start.requires.segments.1 here start.requires.segments.0;
      recalls = (memory, cursor);
      i_bound = (
        omega (
          arith,
          more,
          count_as a.s start.requires.segments.1 here,
        ),
        room,
      );
    }

pub loop-i-preserved : goal.loop-i-preserved
loop-i-preserved c =
    let at-write-segment = c in
    let at-at-stretch = at-write-segment in
    let at-loop-test = at-at-stretch in
    let at-loop = at-loop-test in
    let start = at-loop in
    let a = start.args in
    let inv = at-loop.loop-i.invariant in
    let i = at-loop.loop-i.i in
    let more = at-loop-test.loop-i-test.true in
    let here = at-at-stretch.at_stretch-here.ensures in
    let run = run_as a.s start.requires.segments.1 here a.ms.now a.pts.now a.ks.now a.cs.now i in
    let lefts = lefts_as a.s start.requires.segments.1 here a.ms.now a.pts.now a.ks.now a.cs.now i in
    let next = written_as (sym run) at-write-segment.write_segment-at.ensures.written in
    let written = run-written (fit_run_at a.s a.ms.now a.pts.now a.ks.now a.cs.now) i _ more start.requires.n_in_bounds inv.0 next in
    let passed = at-write-segment.write_segment-at.ensures.sample_value ∙ ap (λ (z : List ℕ). at-loop.loop-i.at.sample + length z) lefts in
    (written, passed-more (fit_lefts a.s a.ms.now a.pts.now a.ks.now a.cs.now) i inv.1 passed)

pub returns : goal.returns
returns c =
    let at-loop = c in
    let start = at-loop in
    let a = start.args in
    let inv = at-loop.loop-i.invariant in
    let e : at-loop.loop-i.i ≡ start.args.s.n - 1 = omega (arith, c.loop-i-test.false) in
    inv.0.is ∙ ap (λ (z : ℕ). spliced a.out.now 0 (encode (flatten (upto (fit_run_at a.s a.ms.now a.pts.now a.ks.now a.cs.now) z)))) e
