-- `spline_curve::gather_curve`: the answers to its goals. Assumes nothing.
use mathlib.Core.Path.{sym, ap}
use native.Mathlib.Omega.{arith}
use lib.ListN.{length}
use lib.Seq.{length-take-le}
use Rattle.spline_curve.specs.Gathers.{chan_long, chan_short, chan_codes, gathered-is}
use Rattle.spline_curve.proofs.gather_curve.Goals as goal

pub slice_bounds-metric_of-end : goal.slice_bounds-metric_of-end
slice_bounds-metric_of-end c =
    let at-channels-of = c in
    let start = at-channels-of in
    chan_long _ _ _ _ _ start.requires.holds.once at-channels-of.channels_of-ch.ensures start.requires.axis_codes_in_bounds.0

pub slice_bounds-metric_of-end-2 : goal.slice_bounds-metric_of-end-2
slice_bounds-metric_of-end-2 c =
    let at-channels-of = c in
    let start = at-channels-of in
    sym (length-take-le _ _ (chan_long _ _ _ _ _ start.requires.holds.once at-channels-of.channels_of-ch.ensures start.requires.axis_codes_in_bounds.0))

pub metric_of-metric-requires : goal.metric_of-metric-requires
metric_of-metric-requires c =
    let at-channels-of = c in
    let start = at-channels-of in
    omega (arith, chan_short _ _ _ _ _ start.requires.holds.once at-channels-of.channels_of-ch.ensures, start.requires.axis_codes_in_bounds.1)

pub slice_bounds-points_of-end : goal.slice_bounds-points_of-end
slice_bounds-points_of-end c =
    let at-channels-of = c in
    let start = at-channels-of in
    chan_long _ _ _ _ _ start.requires.holds.once at-channels-of.channels_of-ch.ensures start.requires.axis_codes_in_bounds.0

pub slice_bounds-points_of-end-2 : goal.slice_bounds-points_of-end-2
slice_bounds-points_of-end-2 c =
    let at-channels-of = c in
    let start = at-channels-of in
    sym (length-take-le _ _ (chan_long _ _ _ _ _ start.requires.holds.once at-channels-of.channels_of-ch.ensures start.requires.axis_codes_in_bounds.0))

pub points_of-n-requires : goal.points_of-n-requires
points_of-n-requires c =
    let at-channels-of = c in
    let start = at-channels-of in
    let listed = at-channels-of.channels_of-ch.ensures in
    let short = chan_short _ _ _ _ _ start.requires.holds.once listed in
    let codes = chan_codes _ _ start.requires.holds.once _ listed.is in
    let long = ap length listed.is in
    record {
      row_words_in_bounds = (start.requires.holds.lent, (start.requires.holds.many, codes));
      chans_len_bound = (
        short,
        (
          rw long
              start.requires.held_in_bounds.0,
          start.requires.held_in_bounds.1,
        ),
      );
      axis_codes_in_bounds = start.requires.holds.start;
    }

pub returns : goal.returns
returns c =
    let at-points-of = c in
    let at-metric-of = at-points-of in
    let at-channels-of = at-metric-of in
    let start = at-channels-of in
    let listed = at-channels-of.channels_of-ch.ensures in
    gathered-is _ _ _ _ _ _ _ _ _ _ _ _ start.requires.holds.once start.requires.axis_codes_in_bounds.1 listed at-metric-of.metric_of-metric.ensures
    at-points-of.points_of-n.ensures
