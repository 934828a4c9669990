-- `spline_metric::add_place`: the answers to its goals. Assumes nothing.
use Rattle.spline_metric.proofs.MetricLaws.{xyz-yes, xyz-no}
use Rattle.spline_channels.specs.Append.{appended_kept, appended_left}
use borrow.Author.Rules.{rules}
use Rattle.spline_metric.proofs.add_place.Goals as goal

pub returns-then-chans-i-le-LAST_XYZ : goal.returns-then-chans-i-le-LAST_XYZ
returns-then-chans-i-le-LAST_XYZ c = appended_kept _ _ (xyz-yes _ _ c.if-chans-i-le-LAST_XYZ.true) (search rules)

pub returns : goal.returns
returns c = appended_left _ _ (xyz-no _ _ c.if-chans-i-le-LAST_XYZ.false)
