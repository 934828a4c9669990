-- From what the tally promises to what is told. Assumes nothing.
use Prim.Native.Nat.{ℕ}
use mathlib.Core.Path.{◌≡◌, refl, ap, ◌∙◌, subst}
use mathlib.Core.List.{List, []}
use Rattle.call_reply.specs.declared.Reply.{Reply}
use Rattle.call_reply.specs.Replies.{plain, StateIs}
use Rattle.tally_call.specs.Calls.{k_push}
use Rattle.csv_count.specs.Count.{bad_text}
use Rattle.night_course.specs.declared.Course.{Course}
use Rattle.night_course.specs.declared.TryRun.{TryRun}
use Rattle.night_course.specs.Course.{with_course, if_told}
use Rattle.night_refusal.specs.Refusal.{turned_down}
use Rattle.night_note.specs.Note.{told_by}
use Rattle.night_note.specs.NoteLaws.{same-told}
use Rattle.night_note.specs.Notes.{NoteIs, UnreadTold}

pub note-is : {kind : ℕ} {p q : Reply} {rows w w' : List ℕ} {run r : TryRun} → StateIs (told_by run.ticket w kind p rows) q w'
    → r ≡ with_course run (if_told q.code run.course) → NoteIs kind p rows w run r w'
note-is {run = run} s e = record { tally = s.state; is = e ∙ ap (λ (x : Reply). with_course run (if_told x.code run.course)) s.reply }

pub unread-told : {run mid r : TryRun} {c : Course} {p : Reply} {w w' : List ℕ} → c ≡ turned_down run.course k_push bad_text run.course.physical
    → mid ≡ with_course run c → p ≡ plain bad_text → NoteIs k_push p [] w mid r w' → UnreadTold run w r w'
unread-told {run} {mid} {r} {c} {p} {w} {w'} d e q n = go (subst (λ (x : TryRun). NoteIs k_push p [] w x r w') e n)
  where
    go : NoteIs k_push p [] w (with_course run c) r w' → UnreadTold run w r w'
    go m =
        record {
          tally = m.tally ∙ ap (λ (x : Reply). (told_by run.ticket w k_push x []).state) q;
          is = m.is ∙ ap (with_course run) (same-told w k_push [] {t = run.ticket} refl q d);
        }
