-- `night_note::unread_told`: the answers to its goals. Assumes nothing.
use Rattle.night_note.proofs.Noting.{unread-told}
use Rattle.night_note.proofs.unread_told.Goals as goal

pub returns : goal.returns
returns c =
    let at_told = c in
    let at-plain-reply = at_told in
    let at-with-course = at-plain-reply in
    let at-turned-down = at-with-course in
    unread-told at-turned-down.turned_down-course.ensures at-with-course.with_course.ensures at-plain-reply.plain_reply.ensures at_told.told.ensures
