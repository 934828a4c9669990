-- `fit_gather::gather`: the answers to its goals. Assumes nothing.
use Rattle.fit_gather.proofs.Gathers.{below_more, gathered}
use Rattle.fit_gather.proofs.gather.Goals as goal

pub gather_times-requires-clause-below : goal.gather_times-requires-clause-below
gather_times-requires-clause-below c = below_more _ _ _ c.requires.below c.requires.fit_room.sums

pub returns : goal.returns
returns c =
    let gather-slopes = c.gather_slopes in
    let gather-points = c.gather_points in
    let args = c.args in
    let pre = c.requires in
    gathered args.cubic args.pts.now args.ts.now args.ch args.n args.ks.now args.fts.now args.fps.now args.slopes.now
    pre.fit_room pre.below pre.in_bounds.0 pre.in_bounds.1 pre.times_rise c.gather_times.ensures
    gather-points.auto.out gather-points.ensures gather-slopes.auto.slopes gather-slopes.ensures
