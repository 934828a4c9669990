-- `night_deed::line_told`: the answers to its goals. Assumes nothing.
use Rattle.night_deed.proofs.Asking.{unread-asked, head-asked, block-asked}
use Rattle.night_deed.proofs.line_told.Goals as goal

pub returns-in-Unread : goal.returns-in-Unread
returns-in-Unread c =
    let at-line-counted = c in
    let at-unread-told = at-line-counted in
    let at-enum-told = at-unread-told in
    unread-asked at-enum-told.in-Unread.is at-unread-told.unread_told.ensures at-line-counted.line_counted.ensures c.nothing_due.ensures

pub returns-in-Header : goal.returns-in-Header
returns-in-Header c =
    let at-line-counted2 = c in
    let at-heading = at-line-counted2 in
    let at-enum-told2 = at-heading in
    head-asked at-enum-told2.in-Header.is at-heading.heading.ensures at-line-counted2.line_counted-in-Header.ensures c.nothing_due-in-Header.ensures

pub returns-in-Block : goal.returns-in-Block
returns-in-Block c = block-asked c.in-Block.is
