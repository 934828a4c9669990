-- LAWS. What is told of equal numbers is the same. Assumes nothing.
use Rattle.std.specs.Prelude.{ℕ, ◌≡◌, List}
use Rattle.std.proofs.Common.{ap, ◌∙◌}
use Rattle.call_reply.specs.declared.Reply.{Reply}
use Rattle.night_course.specs.declared.Ticket.{Ticket}
use Rattle.night_course.specs.declared.Course.{Course}
use Rattle.night_course.specs.Course.{if_told}
use Rattle.night_note.specs.Note.{told_by}

-- the same numbers are told, and the same course ends or goes on
pub same-told : (w : List ℕ) (kind : ℕ) (rows : List ℕ) {t t' : Ticket} {q q' : Reply} {c c' : Course} → t ≡ t' → q ≡ q' → c ≡ c'
    → if_told (told_by t w kind q rows).reply.code c ≡ if_told (told_by t' w kind q' rows).reply.code c'
same-told w kind rows {t} {t'} {q} {q'} {c} {c'} x y z =
    ap (λ (i : Ticket). if_told (told_by i w kind q rows).reply.code c) x
    ∙ ap (λ (i : Reply). if_told (told_by t' w kind i rows).reply.code c) y
    ∙ ap (λ (i : Course). if_told (told_by t' w kind q' rows).reply.code i) z
