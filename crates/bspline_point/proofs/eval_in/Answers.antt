-- `bspline_point::eval_in`: the answers to its goals. Assumes nothing.
use Rattle.bspline_point.proofs.Curves.{eval_is}
use Rattle.bspline_point.proofs.eval_in.Goals as goal

pub returns : goal.returns
returns c =
    let span = c.span_of-k.ensures in
    let pre = c.requires in
    eval_is _ _ _ _ _ _ _ pre.curve.controls span.lower_bound.0 span.lower_bound.1 pre.width.1 pre.curve.top c.held_in-u.ensures span.value
    c.load_rows.ensures c.climb_up.ensures c.project_first.ensures
