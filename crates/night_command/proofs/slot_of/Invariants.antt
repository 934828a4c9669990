-- `night_command::slot_of`: what holds at each turn of its loops. Assumes nothing.
use Rattle.std.proofs.Common.{◌<◌}
use Rattle.night_command.proofs.slot_of.Given as goal

abbrev pub invariant-loop-b : goal.invariant-loop-b
invariant-loop-b l = l.h < 131071
