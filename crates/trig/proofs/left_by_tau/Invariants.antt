-- `trig::left_by_tau`: what holds at each turn of its loops. Assumes nothing.
use mathlib.Core.Path.{◌≡◌}
use Rattle.trig.specs.Remainder.{left_by_tau}
use Rattle.trig.proofs.left_by_tau.Given as goal

abbrev pub invariant-loop : goal.invariant-loop
invariant-loop l = l.left ≡ left_by_tau l.digits l.counter
