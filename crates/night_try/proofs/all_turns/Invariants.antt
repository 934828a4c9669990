-- `night_try::all_turns`: what holds at each turn of its loop. Assumes nothing.
use Rattle.night_turns.specs.Steps.{slices}
use Rattle.night_turns.specs.TurnLaws.{Stands}
use Rattle.night_try.proofs.all_turns.Given as goal

abbrev pub invariant-loop : goal.invariant-loop
invariant-loop l = Stands l.initial.s l.initial.buf (slices l.initial.state l.initial.store l.initial.rows l.initial.tally l.initial.out
    l.initial.listed) l.s 1 l.buf (slices l.state l.store l.rows l.tally l.out l.listed)
