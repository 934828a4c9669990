-- DEFINITIONS. What a call's answer does to a try: rules 11.4, 11.7. Assumes nothing.
use Rattle.std.specs.Prelude.{ℕ, ◌+◌, cond, ◌&&◌, not, List, [], eqb, ltb}
use Rattle.call_reply.specs.declared.Reply.{Reply}
use Rattle.call_reply.specs.Replies.{plain}
use Rattle.still_curved.specs.Curved.{motion_behind}
use Rattle.tally_call.specs.Calls.{k_close}
use Rattle.csv_write.specs.Writer.{rows_text, rows_writable}
use Rattle.csv_count.specs.Count.{bad_text, last_line}
use Rattle.night_listed.specs.Listed.{listed_text, listed_count}
use Rattle.night_course.specs.declared.Ticket.{Ticket}
use Rattle.night_course.specs.declared.Course.{Course}
use Rattle.night_course.specs.Course.{closed}
use Rattle.night_refusal.specs.Refusal.{turned_down}

-- the numbers then, the rows' text, and the lines that name blocks
pub record Answered : Type 0 where
  pub course : Course
  pub out : List ℕ
  pub listed : List ℕ

-- 11.4: a call whose rows have no text counts as refused by 10
unfoldable pub heard : Reply → List ℕ → Reply
heard r rows = cond (eqb r.code 0 && not (rows_writable rows r.count)) (plain bad_text) r

-- blocks are counted up to the last line that is counted
unfoldable pub counted : ℕ → ℕ
counted n = cond (ltb n last_line) n last_line

-- a close that is done ends the try
unfoldable pub stands_on : ℕ → ℕ → ℕ
stands_on kind stands = cond (eqb kind k_close) closed stands

-- a call that is done leaves this motion in force, and has named so many blocks
unfoldable pub done_by : Course → ℕ → ℕ → ℕ → Course
done_by c kind motion named =
    record {
      physical = c.physical;
      source = c.source;
      motion = motion;
      curved = counted (c.curved + named);
      refusal = c.refusal;
      line = c.line;
      stands = stands_on kind c.stands;
    }

abbrev pub done : Course → ℕ → Reply → List ℕ → Course
done c kind r rows = done_by c kind (motion_behind c.motion rows r.count) (listed_count c.motion rows r.count)

-- 11.7: a call that was heard: its rows and the blocks that stay curved, or its refusal at the source line
unfoldable pub answered : Ticket → Course → ℕ → Reply → List ℕ → Answered
answered t c kind r rows =
    cond (eqb r.code 0)
    (record {
      course = done c kind r rows;
      out = rows_text rows r.count;
      listed = listed_text t.job t.number c.motion rows r.count r.warning;
    })
    (record { course = turned_down c kind r.code c.source; out = []; listed = [] })
