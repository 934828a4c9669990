-- `night_try::step`: the answers to its goals. Assumes nothing.
use mathlib.Core.Path.{◌≡◌}
use native.Mathlib.Omega.{arith}
use Rattle.csv_status.specs.Status.{goes_on}
use Rattle.night_turns.specs.TurnLaws.{left_light, turn-did, turn_stopped}
use borrow.Author.Rules.{rules}
use Rattle.night_try.proofs.step.Goals as goal

pub returns-then-n-ne-GOES_ON : goal.returns-then-n-ne-GOES_ON
returns-then-n-ne-GOES_ON c =
    let at-next-found = c in
    let start = at-next-found in
    turn_stopped at-next-found.next_found-n.ensures (λ (z : at-next-found.next_found-n.result.over ≡ goes_on). omega arith) start.requires.0

pub done-then-requires : goal.done-then-requires
done-then-requires c =
    let at-done-arg = c in
    let at-if1 = at-done-arg in
    let at-next-found = at-if1 in
    let start = at-next-found in
    let on : at-next-found.next_found-n.result.over ≡ goes_on = omega (arith, at-if1.if-n-ne-GOES_ON) in
    let ready = at-next-found.next_found-n.ensures in
    let turned = ready.turned on in (
      record { start = turned.start; window = turned.window; inside = search (rules, turned) },
      left_light ready start.requires.0.sound,
    )

pub behind-requires : goal.behind-requires
behind-requires c =
    let at-if1 = c in
    let at-next-found = at-if1 in
    let start = at-next-found in
    let on : at-next-found.next_found-n.result.over ≡ goes_on = omega (arith, at-if1.if-n-ne-GOES_ON) in
    search (rules, at-next-found.next_found-n.ensures.turned on, start.requires.0)

pub returns : goal.returns
returns c =
    let at_done = c in
    let at-if1 = at_done in
    let at-next-found = at-if1 in
    let at-next-found-arg5 = at-next-found in
    let at-next-found-arg4 = at-next-found-arg5 in
    let at-next-found-arg3 = at-next-found-arg4 in
    let at-next-found-arg2 = at-next-found-arg3 in
    let at-next-found-arg = at-next-found-arg2 in
    let on : at-next-found.next_found-n.result.over ≡ goes_on = omega (arith, at-if1.if-n-ne-GOES_ON) in
    turn-did at-next-found.next_found-n.ensures on at_done.done-then.ensures c.behind.ensures
    (search rules)
    (search rules)
    (search rules)
