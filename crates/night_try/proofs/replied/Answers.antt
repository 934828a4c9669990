-- `night_try::replied`: the answers to its goals. Assumes nothing.
use Rattle.night_deed.specs.DeedLaws.{pushed, closed, left_alone}
use borrow.Author.Rules.{rules}
use Rattle.night_try.proofs.replied.Goals as goal

pub returns-in-Push : goal.returns-in-Push
returns-in-Push c =
    let at-push-arg3 = c in
    let at-enum-told = at-push-arg3 in
    pushed at-enum-told.in-Push.is c.push.ensures (search rules)

pub returns-in-Close : goal.returns-in-Close
returns-in-Close c =
    let at-enum-told2 = c in
    closed at-enum-told2.in-Close.is c.close.ensures (search rules)

pub returns-in-Nothing : goal.returns-in-Nothing
returns-in-Nothing c =
    let at-enum-told3 = c in
    left_alone at-enum-told3.in-Nothing.is c.plain_reply.ensures
