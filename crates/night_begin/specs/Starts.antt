-- CONTRACTS. A start that was made is told to the tally. Assumes nothing.
use Rattle.std.specs.Prelude.{ℕ, ◌≡◌, List, []}
use Rattle.call_reply.specs.declared.Reply.{Reply}
use Rattle.call_start.specs.Start.{start_spec}
use Rattle.csv_start.specs.Given.{axes}
use Rattle.night_course.specs.declared.Ticket.{Ticket}
use Rattle.night_course.specs.declared.Course.{Course}
use Rattle.night_course.specs.Course.{if_told}
use Rattle.night_note.specs.Note.{told_by}
use Rattle.night_begin.specs.Begin.{k_start, first_course}

-- a start at a tolerance was told, with no rows
abbrev pub start_reply : List ℕ → ℕ → Reply
start_reply st tolerance = (start_spec st tolerance axes).reply

pub record StartTold (t : Ticket) (st w : List ℕ) (tolerance : ℕ) (st' w' : List ℕ) (r : Course) : Type 0 where
  pub state : st' ≡ (start_spec st tolerance axes).state
  pub tally : w' ≡ (told_by t w k_start (start_reply st tolerance) []).state
  pub course : r ≡ if_told (told_by t w k_start (start_reply st tolerance) []).reply.code (first_course (start_reply st tolerance).code)
