-- `night_path::name_start`: what holds at each turn of its loops. Assumes nothing.
use mathlib.Core.Path.{◌≡◌}
use lib.ListN.{length}
use Rattle.night_path.specs.Names.{start_upto}
use Rattle.night_path.proofs.name_start.Given as goal

abbrev pub invariant-loop-k : goal.invariant-loop-k
invariant-loop-k l = start_upto l.path (length l.path) ≡ start_upto l.path l.k
