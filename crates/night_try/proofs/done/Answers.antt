-- `night_try::done`: the answers to its goals. Assumes nothing.
use Rattle.night_deed.specs.DeedLaws.{deed-done, first-room, heard-room, again-room}
use Rattle.night_turns.specs.TurnLaws.{light_room}
use borrow.Author.Rules.{rules}
use Rattle.night_try.proofs.done.Goals as goal

pub turn_asks-asked-requires : goal.turn_asks-asked-requires
turn_asks-asked-requires c =
    let start = c in
    (search (rules, start.requires.0), (search rules, search (rules, start.requires.1)))

pub heard-once-requires : goal.heard-once-requires
heard-once-requires c =
    let at-heard-arg4 = c in
    let at-heard-arg2 = at-heard-arg4 in
    let at-replied = at-heard-arg2 in
    let at-row2 = at-replied in
    let at-turn-asks = at-row2 in
    let start = at-turn-asks in
    heard-room
    (first-room
    (light_room start.requires.1
    (search rules)
    (search rules)
    (search rules))
    at-turn-asks.turn_asks-asked.ensures.by)
    at-replied.replied-reply.ensures.few
    (search rules)

pub slice_bounds-heard-end-6 : goal.slice_bounds-heard-end-6
slice_bounds-heard-end-6 c =
    let at-replied = c in
    let at-row2 = at-replied in
    search rules

pub heard-requires : goal.heard-requires
heard-requires c =
    let at-heard-arg9 = c in
    let at-heard-arg7 = at-heard-arg9 in
    let at-replied2 = at-heard-arg7 in
    let at-again-due = at-replied2 in
    let at-heard = at-again-due in
    let at-replied = at-heard in
    let at-row2 = at-replied in
    let at-turn-asks = at-row2 in
    let start = at-turn-asks in
    heard-room
    (again-room _
    (first-room
    (light_room start.requires.1
    (search rules)
    (search rules)
    (search rules))
    at-turn-asks.turn_asks-asked.ensures.by)
    (at-heard.heard-once.ensures.step _ _ _ _ _ at-replied.replied-reply.ensures) at-again-due.again_due-again.ensures)
    at-replied2.replied-answer.ensures.few
    (search rules)

pub returns : goal.returns
returns c =
    let at-replied2 = c in
    let at-again-due = at-replied2 in
    let at-heard = at-again-due in
    let at-replied = at-heard in
    let at-turn-asks = at-replied in
    let start = at-turn-asks in
    record {
      step =
          deed-done start.requires.1.sound at-turn-asks.turn_asks-asked.ensures.by at-replied.replied-reply.ensures at-heard.heard-once.ensures
          at-again-due.again_due-again.ensures at-replied2.replied-answer.ensures c.heard.ensures;
    }
