-- CONTRACTS. A call, and text that cannot be read, is told to the tally. Assumes nothing.
use Rattle.std.specs.Prelude.{ℕ, ◌≡◌, List, []}
use Rattle.call_reply.specs.declared.Reply.{Reply}
use Rattle.call_reply.specs.Replies.{plain, AfterState}
use Rattle.tally_call.specs.Calls.{k_push}
use Rattle.csv_count.specs.Count.{bad_text}
use Rattle.night_course.specs.declared.TryRun.{TryRun}
use Rattle.night_course.specs.Course.{with_course, if_told}
use Rattle.night_refusal.specs.Refusal.{turned_down}
use Rattle.night_note.specs.Note.{told_by}

-- a call is told to the tally as it was heard, and behind it the try goes on or ends
pub record NoteIs (kind : ℕ) (p : Reply) (rows w : List ℕ) (run : TryRun) (r : TryRun) (w' : List ℕ) : Type 0 where
  pub tally : w' ≡ (told_by run.ticket w kind p rows).state
  pub is : r ≡ with_course run (if_told (told_by run.ticket w kind p rows).reply.code run.course)

-- text that cannot be read is told as a push refused by 10, at its physical line
abbrev pub unread_note : TryRun → List ℕ → AfterState
unread_note run w = told_by run.ticket w k_push (plain bad_text) []

pub record UnreadTold (run : TryRun) (w : List ℕ) (r : TryRun) (w' : List ℕ) : Type 0 where
  pub tally : w' ≡ (unread_note run w).state
  pub is : r ≡ with_course run (if_told (unread_note run w).reply.code (turned_down run.course k_push bad_text run.course.physical))
