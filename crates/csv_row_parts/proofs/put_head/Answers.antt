-- `csv_row_parts::put_head`: the answers to its goals. Assumes nothing.
use lib.ListN.{get_or}
use Rattle.csv_write.specs.Writing.{in_five, room_1, room_2, room_3, room_4}
use Rattle.csv_row_parts.proofs.put_head.Goals as goal

pub put_byte-b-requires : goal.put_byte-b-requires
put_byte-b-requires c =
    room_1 (get_or c.args.row.now 0 0) c.requires.1.1.1 c.put_whole-a.ensures

pub put_motion-c-requires : goal.put_motion-c-requires
put_motion-c-requires c =
    (room_2 (get_or c.args.row.now 0 0) c.requires.1.1.1 c.put_whole-a.ensures c.put_byte-b.ensures, c.requires.1.0)

pub put_byte-d-requires : goal.put_byte-d-requires
put_byte-d-requires c =
    room_3 (get_or c.args.row.now 0 0) c.requires.1.1.1 c.put_whole-a.ensures c.put_byte-b.ensures (get_or c.args.row.now 1 0)
    c.requires.1.0 c.put_motion-c.ensures

pub put_plane-requires : goal.put_plane-requires
put_plane-requires c =
    let b22 = c in (
      room_4 (get_or b22.args.row.now 0 0) b22.requires.1.1.1 c.put_whole-a.ensures c.put_byte-b.ensures (get_or b22.args.row.now 1 0)
          b22.requires.1.0 c.put_motion-c.ensures c.put_byte-d.ensures,
      b22.requires.1.1.0,
    )

pub returns : goal.returns
returns c =
    in_five c.args.row.now c.put_whole-a.ensures c.put_byte-b.ensures c.put_motion-c.ensures c.put_byte-d.ensures
    c.put_plane.ensures
