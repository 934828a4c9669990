-- `spline_gather::add_point`: the answers to its goals. Assumes nothing.
use mathlib.Core.Path.{sym, ◌∙◌}
use Rattle.spline_points.specs.Curve.{point_added, weight_added, point_unadded, weight_unadded, point-room}
use Rattle.spline_gather.proofs.add_point.Goals as goal

pub next_point-requires : goal.next_point-requires
next_point-requires c =
    let pre = c.requires in
    record { row_len = pre.row_len; chans_len_bound = point-room _ _ _ pre.le_n.0 pre.le_n.1.0 }

pub returns-then-has_point : goal.returns-then-has_point
returns-then-has_point c =
    let d = c in
    let some = sym d.has_point.ensures ∙ d.if-has_point.true in
    let pre = d.requires in
    record { point_put = point_added _ _ _ _ _ _ some c.next_point.ensures; weight_put = weight_added _ _ _ _ _ some c.weight_of.ensures pre.le_n.1.1 }

pub returns : goal.returns
returns c =
    let none = sym c.has_point.ensures ∙ c.if-has_point.false in
    record { point_put = point_unadded _ _ _ _ _ none; weight_put = weight_unadded _ _ _ _ none }
