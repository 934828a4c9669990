-- `checksum_table::by_table`: what holds at each turn of its loops. Assumes nothing.
use mathlib.Core.Path.{◌≡◌}
use lib.ListN.{take}
use Rattle.checksum.specs.Checksum.{with_bytes}
use Rattle.checksum_table.proofs.by_table.Given as goal

abbrev pub invariant-loop-b : goal.invariant-loop-b
invariant-loop-b l = l.sum ≡ with_bytes l.s (take l.b-index l.bytes)
