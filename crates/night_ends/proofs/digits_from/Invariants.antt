-- `night_ends::digits_from`: what holds at each turn of its loops. Assumes nothing.
use mathlib.Core.Path.{◌≡◌}
use lib.ListN.{length}
use Rattle.night_ends.specs.Ends.{digits_upto}
use Rattle.night_ends.proofs.digits_from.Given as goal

abbrev pub invariant-loop-k : goal.invariant-loop-k
invariant-loop-k l = digits_upto l.text (length l.text) ≡ digits_upto l.text l.k
