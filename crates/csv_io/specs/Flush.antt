-- CONTRACTS. What a flush hands over, and what it leaves. Assumes nothing.
use Rattle.std.specs.Prelude.{ℕ, ◌+◌, ◌*◌, ◌≤◌, ◌≡◌, List, ◌++◌, take}
use Rattle.csv_out.specs.declared.Run.{Run}
use Rattle.csv_out.specs.Say.{notice_room, call_room}
use Rattle.csv_io.specs.declared.Sent.{Sent}
use Rattle.csv_io.specs.declared.Left.{Left}
use Rattle.csv_status.specs.Status.{ended}

-- the bytes that the two buffers have room for: what may wait, and what a line adds to it
abbrev pub out_room : ℕ
out_room = 2 * call_room

abbrev pub err_room : ℕ
err_room = 4096

-- as many bytes count as handed over as were lent for each descriptor (where a write failed, fewer may have gone), and no writing is the end
pub record HandedOver (n m : ℕ) (r : Sent) : Type 0 where
  pub rows : r.rows ≡ n
  pub notices : r.notices ≡ m
  pub going : r.over ≡ ended → ⊥

-- the lines and the refusal of a run stay
pub record SameLines (run r : Run) : Type 0 where
  pub physical : r.physical ≡ run.physical
  pub source : r.source ≡ run.source
  pub refused : r.refused ≡ run.refused

-- all that waited was handed over, and nothing waits
pub record Flushed (run : Run) (r : Left) : Type 0 where
  pub all_rows : r.rows ≡ run.out
  pub all_notices : r.notices ≡ run.err
  pub no_rows : r.run.out ≡ 0
  pub no_notices : r.run.err ≡ 0
  pub lines : SameLines run r.run
  pub going : r.over ≡ ended → ⊥

-- there is room for a line; what was handed over, and behind it what still waits, are the bytes that waited; and where notices
-- were handed over no row waits
pub record Emptied (run : Run) (o e : List ℕ) (r : Left) : Type 0 where
  pub outs : r.run.out + call_room ≤ out_room
  pub errs : r.run.err + notice_room ≤ err_room
  pub rows : take r.rows o ++ take r.run.out o ≡ take run.out o
  pub notices : take r.notices e ++ take r.run.err e ≡ take run.err e
  pub rows_first : (r.notices ≡ 0 → ⊥) → r.run.out ≡ 0
  pub lines : SameLines run r.run
  pub going : r.over ≡ ended → ⊥
