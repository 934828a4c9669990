-- `picture_path::put_open`: the answers to its goals. Assumes nothing.
use Rattle.picture_path.specs.PathLaws.{open_wrote}
use Rattle.picture_path.proofs.put_open.Goals as goal

pub returns : goal.returns
returns c =
    let b6 = c in
    let b11 = b6 in
    let b15 = b11 in
    open_wrote _ _ b15.put_bytes-a.ensures b11.put_byte-b.ensures b6.put_bytes-c.ensures c.put_point.ensures
