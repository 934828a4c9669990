-- `fit_gather::gather_points`: the answers to its goals. Assumes nothing.
use mathlib.Core.Path.{refl}
use native.Mathlib.Omega.{arith}
use lib.ListN.{length}
use Rattle.curve_metric.specs.Below.{Below}
use Rattle.curve_metric.specs.Points.{row_fits_lem}
use Rattle.fit_knots.specs.Blocks.{blocks_more}
use Rattle.fit_gather.proofs.Gathers.{part-put}
use Rattle.fit_gather.proofs.gather_points.Goals as goal

pub overflow_mul-from : goal.overflow_mul-from
unfolding Below
overflow_mul-from c =
    omega (arith, row_fits_lem _ _ _ _ (c.requires.below c.loop-w.w c.loop-w-test.true) c.requires.ch_in_bounds.0)

pub overflow_add-numbers : goal.overflow_add-numbers
unfolding Below
overflow_add-numbers c =
    omega (arith, row_fits_lem _ _ _ _ (c.requires.below c.loop-w.w c.loop-w-test.true) c.requires.ch_in_bounds.0)

pub offset_bounds-pts-from : goal.offset_bounds-pts-from
unfolding Below
offset_bounds-pts-from c =
    omega (arith, row_fits_lem _ _ _ _ (c.requires.below c.loop-w.w c.loop-w-test.true) c.requires.ch_in_bounds.0)

pub slice_bounds-numbers-end : goal.slice_bounds-numbers-end
unfolding Below
slice_bounds-numbers-end c =
    omega (arith, row_fits_lem _ _ _ _ (c.requires.below c.loop-w.w c.loop-w-test.true) c.requires.ch_in_bounds.0)

pub loop-w-preserved : goal.loop-w-preserved
loop-w-preserved c =
    let args = c.args in
    let copied = c.copy in
    let into = row_fits_lem c.loop-w.w (length args.ks.now) args.ch (length args.out.now) c.loop-w-test.true c.requires.ch_in_bounds.1 in
    blocks_more c.loop-w.invariant (part-put _ _ (omega (arith, into)) copied.auto.to copied.ensures (λ j h. refl))
