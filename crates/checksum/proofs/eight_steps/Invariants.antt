-- `checksum::eight_steps`: what holds at each turn of its loops. Assumes nothing.
use mathlib.Core.Path.{◌≡◌}
use Rattle.checksum.specs.Checksum.{steps}
use Rattle.checksum.proofs.eight_steps.Given as goal

abbrev pub invariant-loop : goal.invariant-loop
invariant-loop l = l.sum ≡ steps l.counter l.s
