-- `csv_run::step`: the answers to its goals. Assumes nothing.
use mathlib.Core.Path.{◌≡◌}
use native.Mathlib.Omega.{arith}
use Rattle.csv_status.specs.Status.{goes_on}
use Rattle.csv_run.specs.TurnLaws.{turn_is, stopped-turn}
use borrow.Author.Rules.{rules}
use Rattle.csv_run.proofs.step.Goals as goal

pub returns-then-n-ne-GOES_ON : goal.returns-then-n-ne-GOES_ON
returns-then-n-ne-GOES_ON g c =
    let ready = c.next_found-n.ensures in
    let off : c.next_found-n.result.over ≡ goes_on → ⊥ = λ (z : c.next_found-n.result.over ≡ goes_on). omega arith in
    stopped-turn _ c.requires.0 ready.emptied off (ready.unread off)

pub returns : goal.returns
returns g c =
    let ready = c.next_found-n.ensures in
    let on : c.next_found-n.result.over ≡ goes_on = omega (arith, c.if-n-ne-GOES_ON) in
    turn_is _ _ _ _ _ _ _ _ ready.emptied (ready.turned on) c.done.ensures (c.requires.0.clear c.requires.1) (search rules) (search rules) (search rules)
