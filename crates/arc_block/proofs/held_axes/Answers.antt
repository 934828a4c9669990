-- `arc_block::held_axes`: the answers to its goals. Assumes nothing.
use native.Mathlib.Omega.{arith}
use Rattle.arc_block.proofs.Points.{held-bits}
use Rattle.arc_block.proofs.held_axes.Goals as goal

pub returns : goal.returns
returns c =
    let start = c in
    let args = start.args in
    let pre = start.requires.1 in
    rw (c.set_bit-started.ensures, c.set_bit.ensures)
    (held-bits args.gs _ args.known args.u args.v (omega arith) pre.1.0 pre.1.1 pre.0)
