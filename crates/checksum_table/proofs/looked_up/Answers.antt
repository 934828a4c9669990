-- `checksum_table::looked_up`: the answers to its goals. Assumes nothing.
use Rattle.checksum_table.proofs.Looking.{by_entry, first-low}
use native.Mathlib.Omega.{arith}
use mathlib.Core.Path.{refl}
use Rattle.checksum_table.proofs.looked_up.Goals as goal

pub offset_bounds-table-k : goal.offset_bounds-table-k
offset_bounds-table-k c = record { fits = omega (arith, first-low c.args.s c.args.b (omega arith)) }

pub bounds-table-k : goal.bounds-table-k
bounds-table-k c = omega (arith, first-low c.args.s c.args.b (omega arith), c.requires.long)

pub returns : goal.returns
returns c = by_entry _ _ c.args.table.now (omega arith) c.requires refl
