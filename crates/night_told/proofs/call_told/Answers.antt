-- `night_told::call_told`: the answers to its goals. Assumes nothing.
use Rattle.night_told.proofs.Tell.{fits-at, call-told}
use Rattle.night_told.proofs.call_told.Goals as goal

pub answer-heard-requires : goal.answer-heard-requires
answer-heard-requires c =
    let at-at-source = c in
    let start = at-at-source in
    fits-at _ at-at-source.at_source.ensures start.requires

pub returns : goal.returns
returns c =
    let at_told = c in
    let at-answer = at_told in
    let at-at-source = at-answer in
    call-told at-at-source.at_source.ensures at-answer.answer-heard.ensures at_told.told.ensures
