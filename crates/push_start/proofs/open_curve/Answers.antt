-- `push_start::open_curve`: the answers to its goals. Assumes nothing.
use lib.ListN.{length-set}
use Rattle.push_start.proofs.Opening.{open_done, open_length}
use Rattle.push_start.proofs.open_curve.Goals as goal

pub copy_positions-requires : goal.copy_positions-requires
copy_positions-requires c = simp length-set c.requires

pub shape_of-state : goal.shape_of-state
shape_of-state c =
    open_length c.args.state.now _ c.requires c.copy_positions.ensures

pub returns : goal.returns
returns c = open_done _ _ c.requires c.copy_positions.ensures
