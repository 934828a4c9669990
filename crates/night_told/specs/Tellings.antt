-- CONTRACTS. A call that was made is told to the tally, and what it answered is added to what waits. Assumes nothing.
use Rattle.std.specs.Prelude.{ℕ, ◌≡◌, List}
use Rattle.call_reply.specs.declared.Reply.{Reply}
use Rattle.csv_out.specs.Said.{Adds}
use Rattle.night_course.specs.declared.TryRun.{TryRun}
use Rattle.night_course.specs.Course.{if_told, at_source}
use Rattle.night_note.specs.Note.{told_by}
use Rattle.night_answer.specs.Answer.{Answered, heard, answered}
use Rattle.night_answer.specs.Answers.{Sound}

-- a call answered p at a source line: it was heard, added to what waits and told
abbrev pub said_by : TryRun → ℕ → ℕ → Reply → List ℕ → Answered
said_by run source kind p rows = answered run.ticket (at_source source run.course) kind (heard p rows) rows

pub record CallTold (source kind : ℕ) (p : Reply) (rows w : List ℕ) (run : TryRun) (o l : List ℕ) (r : TryRun) (w' o' l' : List ℕ) : Type 0 where
  pub tally : w' ≡ (told_by run.ticket w kind (heard p rows) rows).state
  pub ticket : r.ticket ≡ run.ticket
  pub course : r.course ≡ if_told (told_by run.ticket w kind (heard p rows) rows).reply.code (said_by run source kind p rows).course
  pub out : Adds (said_by run source kind p rows).out o run.out o' r.out
  pub listed : Adds (said_by run source kind p rows).listed l run.listed l' r.listed
  pub sound : Sound r
