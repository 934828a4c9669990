-- `spline_sample::put_bare`: the answers to its goals. Assumes nothing.
use Rattle.spline_sample.proofs.Made.{bare-put}
use Rattle.spline_sample.proofs.Leaves.{cells_of}
use Rattle.spline_sample.proofs.put_bare.Goals as goal

pub returns : goal.returns
returns c =
    let d = c in
    let own = d.own_mask.ensures in
    let f = d.args in
    let cells = cells_of f.row.now in
    bare-put _ f.place _ _ _ _ own d.motion_of.ensures cells _ _ c.put_made.ensures
