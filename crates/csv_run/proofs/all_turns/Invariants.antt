-- `csv_run::all_turns`: what holds at each turn of its loop. Assumes nothing.
use Rattle.csv_run.specs.Steps.{slices}
use Rattle.csv_run.specs.RunLaws.{Stands}
use Rattle.csv_run.proofs.all_turns.Given as goal

abbrev pub invariant-loop : goal.invariant-loop
invariant-loop g l = Stands l.s 1 l.buf (slices l.state l.store l.rows l.out l.err)
