-- `night_begin::start_told`: the answers to its goals. Assumes nothing.
use mathlib.Core.Path.{refl}
use Rattle.night_begin.proofs.Starting.{start-told}
use Rattle.night_begin.proofs.start_told.Goals as goal

pub returns : goal.returns
returns c =
    let at_told = c in
    let at-first-course = at_told in
    let at-started = at-first-course in
    start-told at-started.started-reply.ensures refl at-first-course.first_course.ensures at_told.told-then.ensures
