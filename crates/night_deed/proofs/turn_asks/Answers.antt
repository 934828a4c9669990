-- `night_deed::turn_asks`: the answers to its goals. Assumes nothing.
use Rattle.night_deed.proofs.Asking.{end-asked, full-asked, more-asked, fails-asked, asked_as}
use Rattle.night_deed.proofs.turn_asks.Goals as goal

pub returns-in-Ended : goal.returns-in-Ended
returns-in-Ended c =
    let at-end-asked = c in
    let at-enum-told2 = at-end-asked in
    asked_as at-enum-told2.in-Ended.is (end-asked at-end-asked.end_asked.ensures)

pub returns-in-Full : goal.returns-in-Full
returns-in-Full c =
    let at-input-ends = c in
    let at-enum-told3 = at-input-ends in
    asked_as at-enum-told3.in-Full.is (full-asked at-input-ends.input_ends.ensures c.nothing_due.ensures)

pub returns-in-More : goal.returns-in-More
returns-in-More c =
    let at-enum-told4 = c in
    asked_as at-enum-told4.in-More.is (more-asked c.nothing_due-in-More.ensures)

pub returns-in-Failed : goal.returns-in-Failed
returns-in-Failed c =
    let at-enum-told5 = c in
    asked_as at-enum-told5.in-Failed.is (fails-asked c.nothing_due-in-Failed.ensures)
