-- `night_try::whole_try`: the answers to its goals. Assumes nothing.
use Rattle.night_turns.specs.TurnLaws.{first-within}
use Rattle.night_turns.proofs.RunLaws.{try-ran}
use borrow.Author.Rules.{rules}
use Rattle.night_try.proofs.whole_try.Goals as goal

pub all_turns-s-requires : goal.all_turns-s-requires
all_turns-s-requires c =
    let at_first_lem = c in
    let at-start-told = at_first_lem in
    first-within at-start-told.start_told-course.ensures at_first_lem.first-begun.ensures

pub last-requires : goal.last-requires
last-requires c =
    let at-all-turns = c in
    search (rules, at-all-turns.all_turns-s.ensures.within)

pub returns : goal.returns
returns c =
    let at-all-turns = c in
    let at_first_lem = at-all-turns in
    let at-start-told = at_first_lem in
    try-ran at-start-told.start_told-course.ensures at_first_lem.first-begun.ensures at-all-turns.all_turns-s.ensures c.last.ensures
