-- `row_make::put_first_cells`: the answers to its goals. Assumes nothing.
use native.Mathlib.Omega.{arith}
use Rattle.row_made.specs.Making.{first_lays, own_lays, first-written}
use Rattle.row_make.proofs.put_first_cells.Goals as goal

pub put_cells-requires : goal.put_cells-requires
put_cells-requires c =
    let ride = c in
    let start = ride in
    let of = start.requires.0 in
    first_lays _ _ of.axes of.point start.args.row.now of.long _ _ _ ride.ridden.ensures (omega arith)

pub lay_cells-requires : goal.lay_cells-requires
lay_cells-requires c =
    let start = c in
    let of = start.requires.0 in
    own_lays _ _ of.axes of.point start.args.row.now of.long _ _ _ (omega arith) of.wide

pub returns : goal.returns
returns c =
    let lay = c in
    let put = lay in
    let ride = put in
    let start = ride in
    let of = start.requires.0 in
    let rode = ride.ridden.ensures in
    first-written _ _ of.axes of.point start.args.row.now of.long _ _ _ _ _ _
    rode (omega arith) put.put_cells.ensures lay.lay_cells.ensures
