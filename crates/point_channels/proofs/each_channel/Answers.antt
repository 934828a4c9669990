-- `point_channels::each_channel`: the answers to its goals. Assumes nothing.
use Rattle.curve_metric.specs.Written.{written}
use Rattle.point_channels.proofs.Places.{placed, placed-is, placed-all}
use Rattle.point_channels.proofs.each_channel.Goals as goal

pub returns : goal.returns
returns g c f is =
    let ch = c.args.ch in
    placed-all f ch c.requires.narrow (written (placed f ch)
    (placed-is f ch is 0 c.number_at.ensures.inside c.number_at.ensures.outside)
    (placed-is f ch is 1 c.number_at-2.ensures.inside c.number_at-2.ensures.outside)
    (placed-is f ch is 2 c.number_at-3.ensures.inside c.number_at-3.ensures.outside)
    (placed-is f ch is 3 c.number_at-4.ensures.inside c.number_at-4.ensures.outside)
    (placed-is f ch is 4 c.number_at-5.ensures.inside c.number_at-5.ensures.outside)
    (placed-is f ch is 5 c.number_at-6.ensures.inside c.number_at-6.ensures.outside)
    (placed-is f ch is 6 c.number_at-7.ensures.inside c.number_at-7.ensures.outside)
    (placed-is f ch is 7 c.number_at-8.ensures.inside c.number_at-8.ensures.outside)
    (placed-is f ch is 8 c.number_at-9.ensures.inside c.number_at-9.ensures.outside)
    (placed-is f ch is 9 c.number_at-10.ensures.inside c.number_at-10.ensures.outside)
    (placed-is f ch is 10 c.number_at-11.ensures.inside c.number_at-11.ensures.outside)
    (placed-is f ch is 11 c.number_at-12.ensures.inside c.number_at-12.ensures.outside)
    (placed-is f ch is 12 c.number_at-13.ensures.inside c.number_at-13.ensures.outside)
    (placed-is f ch is 13 c.number_at-14.ensures.inside c.number_at-14.ensures.outside)
    (placed-is f ch is 14 c.number_at-15.ensures.inside c.number_at-15.ensures.outside)
    (placed-is f ch is 15 c.number_at-16.ensures.inside c.number_at-16.ensures.outside))
