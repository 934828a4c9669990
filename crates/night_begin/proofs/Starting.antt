-- From what the flattener's start and the tally promise to how a try begins. Assumes nothing.
use Prim.Native.Nat.{ℕ}
use mathlib.Core.Path.{◌≡◌, sym, ap, ◌∙◌}
use mathlib.Core.List.{List, []}
use borrow.Author.Tests.{ne_eqb}
use Rattle.floats.specs.Truth.{cond-f}
use Rattle.call_reply.specs.declared.Reply.{Reply}
use Rattle.call_reply.specs.Replies.{StateIs}
use Rattle.call_start.specs.Start.{start_spec}
use Rattle.csv_start.specs.Given.{axes}
use Rattle.night_course.specs.declared.Ticket.{Ticket}
use Rattle.night_course.specs.declared.Course.{Course}
use Rattle.night_course.specs.declared.TryRun.{TryRun}
use Rattle.night_refusal.specs.Refusal.{turned_down}
use Rattle.night_note.specs.Note.{told_by}
use Rattle.night_note.specs.NoteLaws.{same-told}
use Rattle.night_note.specs.Notes.{NoteIs}
use Rattle.night_begin.specs.Begin.{k_start, fresh, first_course}
use Rattle.night_begin.specs.Starts.{StartTold}

pub start-told : {t : Ticket} {st st' w w' : List ℕ} {tolerance : ℕ} {p : Reply} {run r : TryRun} → StateIs (start_spec st tolerance axes) p st'
    → run.ticket ≡ t → run.course ≡ first_course p.code → NoteIs k_start p [] w run r w' → StartTold t st w tolerance st' w' r.course
start-told {t} {st} {st'} {w} {w'} {tolerance} {p} {run} {r} s a b n =
    record {
      state = s.state;
      tally =
          n.tally
          ∙ ap (λ (i : Ticket). (told_by i w k_start p []).state) a
          ∙ ap (λ (i : Reply). (told_by t w k_start i []).state) s.reply;
      course =
          ap (λ (x : TryRun). x.course) n.is
          ∙ same-told w k_start [] a s.reply (b ∙ ap (λ (i : Reply). first_course i.code) s.reply);
    }

pub first_bad : {code : ℕ} {c d : Course} → (code ≡ 0 → ⊥) → d ≡ fresh → c ≡ turned_down d k_start code 0 → c ≡ first_course code
unfolding first_course
first_bad {code} {c} {d} n e f = f ∙ ap (λ (x : Course). turned_down x k_start code 0) e ∙ sym (cond-f _ _ (ne_eqb code 0 n))
