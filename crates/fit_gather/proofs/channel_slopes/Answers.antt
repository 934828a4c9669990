-- `fit_gather::channel_slopes`: the answers to its goals. Assumes nothing.
use Prim.Native.Nat.{◌*◌}
use native.Mathlib.Omega.{arith}
use lib.ListN.{length}
use Rattle.curve_metric.specs.Points.{row_fits_lem}
use Rattle.fit_gather.proofs.Gathers.{channel_block}
use Rattle.fit_gather.proofs.channel_slopes.Goals as goal

pub returns : goal.returns
returns c =
    let args = c.args in
    let pre = c.requires in
    let slopes-of = c.slopes_of in
    let fits = row_fits_lem args.c args.ch args.m (length args.slopes.now) pre.c_lt_ch.0 pre.c_lt_ch.1.1 in
    channel_block args.cubic args.fts.now args.fps.now args.m args.ch args.c (args.c * args.m) args.ys.now (omega arith) c.column.ensures fits
    slopes-of.auto.out slopes-of.ensures
