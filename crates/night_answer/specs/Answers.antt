-- CONTRACTS. What a call answered in a try, of the buffers in which bytes wait. Assumes nothing.
use Rattle.std.specs.Prelude.{ℕ, ◌+◌, ◌*◌, ◌≤◌, ◌<◌, ◌≡◌, List}
use Rattle.layout.specs.Layout.{row_words}
use Rattle.call_reply.specs.declared.Reply.{Reply}
use Rattle.csv_write.specs.Writer.{row_room}
use Rattle.csv_count.specs.Count.{last_line}
use Rattle.csv_out.specs.Said.{Adds}
use Rattle.night_naming.specs.Naming.{listed_room}
use Rattle.night_naming.specs.Pieces.{motion_words}
use Rattle.night_course.specs.declared.TryRun.{TryRun}
use Rattle.night_course.specs.Course.{with_course}
use Rattle.night_refusal.specs.Refusal.{turned_down}
use Rattle.night_answer.specs.declared.Heard.{Heard}
use Rattle.night_answer.specs.Answer.{heard, answered}

-- a refused call, at the source line of the last block
abbrev pub turned_away : TryRun → ℕ → Reply → Heard
turned_away run kind p = record { run = with_course run (turned_down run.course kind p.code run.course.source); reply = p }

-- what holds of a try's numbers all along: the motion in force has a word, and blocks were counted no further than they are
pub record Sound (run : TryRun) : Type 0 where
  pub word : run.course.motion < motion_words
  pub most : run.course.curved ≤ last_line

-- room for what a call answers, where it is done
pub record AnswerFits (reply : Reply) (rows out listed : ℕ) (run : TryRun) : Type 0 where
  pub lent : reply.code ≡ 0 → reply.count * row_words ≤ rows
  pub outs : reply.code ≡ 0 → run.out + row_room * reply.count ≤ out
  pub lists : reply.code ≡ 0 → run.listed + listed_room * reply.count ≤ listed
  pub sound : Sound run

-- it is heard, and what it says is added behind what waits
pub record Answers (kind : ℕ) (p : Reply) (rows : List ℕ) (run : TryRun) (o l : List ℕ) (r : Heard) (o' l' : List ℕ) : Type 0 where
  pub reply : r.reply ≡ heard p rows
  pub ticket : r.run.ticket ≡ run.ticket
  pub course : r.run.course ≡ (answered run.ticket run.course kind (heard p rows) rows).course
  pub out : Adds (answered run.ticket run.course kind (heard p rows) rows).out o run.out o' r.run.out
  pub listed : Adds (answered run.ticket run.course kind (heard p rows) rows).listed l run.listed l' r.run.listed
  pub sound : Sound r.run
