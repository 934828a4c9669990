-- From what the calls and the tally promise to what is told. Assumes nothing.
use Prim.Native.Nat.{ℕ}
use mathlib.Core.Path.{◌≡◌, sym, ap, ◌∙◌, subst}
use mathlib.Core.List.{List}
use Rattle.call_reply.specs.declared.Reply.{Reply}
use Rattle.csv_out.specs.Said.{Adds}
use Rattle.night_course.specs.declared.Ticket.{Ticket}
use Rattle.night_course.specs.declared.TryRun.{TryRun}
use Rattle.night_course.specs.Course.{with_course, if_told, at_source}
use Rattle.night_note.specs.Note.{told_by}
use Rattle.night_note.specs.NoteLaws.{same-told}
use Rattle.night_note.specs.Notes.{NoteIs}
use Rattle.night_answer.specs.declared.Heard.{Heard}
use Rattle.night_answer.specs.Answers.{Sound, AnswerFits, Answers}
use Rattle.night_told.specs.Tellings.{said_by, CallTold}

sound-told : (x : TryRun) (k : ℕ) → Sound x → Sound (with_course x (if_told k x.course))
unfolding if_told
sound-told x k s = record { word = s.word; most = s.most }

pub call-told : {source kind : ℕ} {p : Reply} {rows w w' o o' l l' : List ℕ} {run mid r : TryRun} {h : Heard}
    → mid ≡ with_course run (at_source source run.course) → Answers kind p rows mid o l h o' l'
    → NoteIs kind h.reply rows w h.run r w' → CallTold source kind p rows w run o l r w' o' l'
call-told {source} {kind} {p} {rows} {w} {w'} {o} {o'} {l} {l'} {run} {mid} {r} {h} e a n =
    go (subst (λ (x : TryRun). Answers kind p rows x o l h o' l') e a)
  where
    go : Answers kind p rows (with_course run (at_source source run.course)) o l h o' l' → CallTold source kind p rows w run o l r w' o' l'
    go b =
        record {
          tally =
              n.tally
              ∙ ap (λ (i : Ticket). (told_by i w kind h.reply rows).state) b.ticket
              ∙ ap (λ (i : Reply). (told_by run.ticket w kind i rows).state) b.reply;
          ticket = ap (λ (x : TryRun). x.ticket) n.is ∙ b.ticket;
          course = ap (λ (x : TryRun). x.course) n.is ∙ same-told w kind rows b.ticket b.reply b.course;
          out = subst (λ (k : ℕ). Adds (said_by run source kind p rows).out o run.out o' k) (sym (ap (λ (x : TryRun). x.out) n.is)) b.out;
          listed =
              subst (λ (k : ℕ). Adds (said_by run source kind p rows).listed l run.listed l' k)
              (sym (ap (λ (x : TryRun). x.listed) n.is)) b.listed;
          sound = subst Sound (sym n.is) (sound-told h.run _ b.sound);
        }

pub fits-at : {reply : Reply} {rows out listed : ℕ} {run mid : TryRun} (source : ℕ) → mid ≡ with_course run (at_source source run.course)
    → AnswerFits reply rows out listed run → AnswerFits reply rows out listed mid
fits-at {reply} {rows} {out} {listed} {run} {mid} source e f =
    subst (AnswerFits reply rows out listed) (sym e)
    (record { lent = f.lent; outs = f.outs; lists = f.lists; sound = record { word = f.sound.word; most = f.sound.most } })
