-- CONTRACTS. What a line of the picture program's input leaves room for. Assumes nothing.
use Rattle.std.specs.Prelude.{ℕ, ◌+◌, ◌≤◌}
use Rattle.csv_out.specs.declared.Run.{Run}
use Rattle.csv_out.specs.Say.{notice_room}
use Rattle.csv_io.specs.Flush.{out_room, err_room}
use Rattle.picture_path.specs.PathText.{move_room}

-- what is left for the end of a picture behind its last line
abbrev pub last_room : ℕ
last_room = 4096

-- what waits leaves room for what one line can say, and for the end
pub record Room (run : Run) : Type 0 where
  pub out : run.out + (move_room + last_room) ≤ out_room
  pub err : run.err + notice_room ≤ err_room

-- a line has said no more than that
pub record Kept (run r : Run) : Type 0 where
  pub out : r.out ≤ run.out + move_room
  pub err : r.err ≤ run.err + notice_room
