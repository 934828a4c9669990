-- `picture_run::all_turns`: what holds at each turn of its loops. Assumes nothing.
use Rattle.std.specs.Prelude.{◌≡◌}
use Rattle.csv_status.specs.Status.{goes_on}
use Rattle.picture_run.specs.Pages.{Within}
use Rattle.picture_run.proofs.all_turns.Given as goal

abbrev pub invariant-loop : goal.invariant-loop
invariant-loop g l = Within l.page.reading × (l.page.reading.over ≡ goes_on)
