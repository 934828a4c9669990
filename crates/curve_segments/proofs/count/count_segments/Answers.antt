-- `curve_segments::count::count_segments`: the answers to its goals. Assumes nothing.
use mathlib.Core.Path.{◌≡◌, sym, ap, ◌∙◌}
use mathlib.Core.List.{List}
use Prim.Native.Nat.{ℕ, ◌≤◌, ◌-◌}
use native.Mathlib.Omega.{arith}
use lib.ListN.{length, set}
use lib.Seq.{sets}
use lib.Ieee.{Float}
use Rattle.floats.specs.Lists.{filled}
use Rattle.floats.specs.Fill.{filling-none}
use Rattle.layout.specs.Layout.{most_points}
use Rattle.curve_walk.proofs.Remembering.{stored_length, stored_as}
use Rattle.curve_segments.specs.Stretches.{fit_run_at}
use Rattle.curve_segments.specs.Lefts.{fit_lefts}
use Rattle.curve_walk.specs.Lefts.{joined}
use Rattle.curve_segments.proofs.Segmenting.{run-few, lefts-few, filling-set, fresh_at}
use Rattle.curve_segments.proofs.Hinting.{pieces_of, segments_as, fresh_as, run_as, lefts_as}
use Rattle.curve_walk.proofs.Joining.{stored_start, stored_more, cursor_part}
use Rattle.curve_segments.proofs.count.count_segments.Goals as goal

pub loop-i-init : goal.loop-i-init
loop-i-init c =
    let a = c.args in
    (filling-none, stored_start (fit_lefts a.s a.ms.now a.pts.now a.ks.now a.cs.now))

pub at_stretch-here-requires : goal.at_stretch-here-requires
at_stretch-here-requires c =
    let pre = c.requires.segments in
    (pieces_of _ pre.1 pre.0, omega (arith, c.loop-i-test.true, pre.0.tables.few, pre.0.tables.knots))

pub count_segment-c-requires : goal.count_segment-c-requires
count_segment-c-requires c =
    let at-at-stretch = c in
    let at-loop-test = at-at-stretch in
    let at-loop = at-loop-test in
    let start = at-loop in
    let a = start.args in
    let inv = at-loop.loop-i.invariant in
    let here = at-at-stretch.at_stretch-here.ensures in
    let few_runs = run-few a.s a.ms.now a.pts.now a.ks.now a.cs.now in
    let lengths : ℕ → ℕ = λ j. length (fit_run_at a.s a.ms.now a.pts.now a.ks.now a.cs.now j) in
    let fresh = fresh_at lengths few_runs start.requires.fresh inv.0 at-loop-test.loop-i-test.true in
    let few : at-loop.loop-i.i ≤ most_points = omega (arith, at-loop-test.loop-i-test.true, start.requires.segments.0.tables.few) in
    let few-lefts = lefts-few a.s a.ms.now a.pts.now a.ks.now a.cs.now in
    let cursor = cursor_part (fit_lefts a.s a.ms.now a.pts.now a.ks.now a.cs.now) few-lefts at-loop.loop-i.i few inv.1.end in
    record {
      segments = segments_as _ start.requires.segments.1 here start.requires.segments.0;
      fresh_at = (
        fresh_as _ start.requires.segments.1 here
            fresh,
        cursor,
      );
    }

pub loop-i-preserved : goal.loop-i-preserved
loop-i-preserved c =
    let at-count-segment = c in
    let at-at-stretch = at-count-segment in
    let at-loop-test = at-at-stretch in
    let at-loop = at-loop-test in
    let start = at-loop in
    let a = start.args in
    let inv = at-loop.loop-i.invariant in
    let i = at-loop.loop-i.i in
    let here = at-at-stretch.at_stretch-here.ensures in
    let run = run_as a.s start.requires.segments.1 here a.ms.now a.pts.now a.ks.now a.cs.now i in
    let lefts = lefts_as a.s start.requires.segments.1 here a.ms.now a.pts.now a.ks.now a.cs.now i in
    let set_here = at-count-segment.count_segment-c.ensures.counts_after ∙ ap (λ (z : List (List Float)). set at-loop.loop-i.counts i (length z)) run in
    let f = filling-set inv.0 (omega (arith, start.requires.fresh.table, at-loop-test.loop-i-test.true)) set_here in
    let stored = stored_more (fit_lefts a.s a.ms.now a.pts.now a.ks.now a.cs.now) i inv.1 (stored_as (sym lefts)
    at-count-segment.count_segment-c.ensures.stored) in
    (f, stored)

pub shape_of-lefts : goal.shape_of-lefts
shape_of-lefts c = stored_length c.loop-i.invariant.1

pub returns : goal.returns
returns c =
    let at-loop = c in
    let start = at-loop in
    let a = start.args in
    let inv = at-loop.loop-i.invariant in
    let e : at-loop.loop-i.i ≡ start.args.s.n - 1 = omega (arith, c.loop-i-test.false) in
    record {
      counts_after = inv.0.is ∙ ap (λ (z : ℕ). filled (λ (j : ℕ). length (fit_run_at a.s a.ms.now a.pts.now a.ks.now a.cs.now j)) z
          a.counts.now) e;
      lefts_after = inv.1.is ∙ ap (λ (z : ℕ). sets a.lefts.now 0 (joined (fit_lefts a.s a.ms.now a.pts.now a.ks.now a.cs.now) z)) e;
    }
