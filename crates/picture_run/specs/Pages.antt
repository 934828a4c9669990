-- CONTRACTS. What a run of the picture program leaves room for. Assumes nothing.
use Rattle.std.specs.Prelude.{ℕ, ◌+◌, ◌≤◌, ◌≡◌}
use Rattle.text_lines.specs.declared.Turn.{Turn}
use Rattle.csv_out.specs.declared.Run.{Run}
use Rattle.csv_io.specs.Flush.{out_room, err_room}
use Rattle.csv_reading.specs.declared.Reading.{Reading}
use Rattle.picture_row.specs.Room.{last_room, Kept}

-- the bytes that the input buffer has room for
abbrev pub in_room : ℕ
in_room = 65536

-- a turn's places lie in a buffer of n bytes
pub record FoundIn (t : Turn) (n : ℕ) : Type 0 where
  pub start : t.from ≤ t.at
  pub window : t.at ≤ t.end
  pub inside : t.end ≤ n

-- the reading behind what a turn found
pub record Behind (t : Turn) (run : Run) (r : Reading) : Type 0 where
  pub from : r.at ≡ t.at
  pub upto : r.end ≡ t.end
  pub kept : Kept run r.run

-- the unread bytes lie in the buffer, and what waits leaves room for the end
pub record Within (s : Reading) : Type 0 where
  pub window : s.at ≤ s.end
  pub inside : s.end ≤ in_room
  pub outs : s.run.out + last_room ≤ out_room
  pub errs : s.run.err ≤ err_room
