-- `night_jobs::count_lot`: what holds at each turn of its loops. Assumes nothing.
use Rattle.night_jobs.specs.Jobs.{count_lot}
use mathlib.Core.Path.{◌≡◌}
use Rattle.night_jobs.proofs.count_lot.Given as goal

abbrev pub invariant-loop-i : goal.invariant-loop-i
invariant-loop-i l = l.r ≡ count_lot l.marks l.words l.i l.tolerances l.lot
