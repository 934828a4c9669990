-- `spline_metric::metric_of`: the answers to its goals. Assumes nothing.
use native.Mathlib.Omega.{arith}
use Rattle.spline_metric.proofs.MetricLaws.{metric-all, metric-xyz}
use Rattle.spline_channels.specs.Append.{appended_fresh, appended_as}
use Rattle.spline_metric.proofs.metric_of.Goals as goal

pub returns-then-m-eq0 : goal.returns-then-m-eq0
returns-then-m-eq0 c =
    let xyz = c.xyz_places-m.ensures in
    let none = c.if-m-eq0.true in
    appended_as (metric-all _ (omega (arith, xyz.count, none))) (appended_fresh xyz.same c.all_places.ensures)

pub returns : goal.returns
returns c =
    let xyz = c.xyz_places-m.ensures in
    appended_as (metric-xyz _ (λ e. c.if-m-eq0.false (omega (arith, xyz.count)))) xyz
