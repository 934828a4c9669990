-- `checksum_table::make_table`: what holds at each turn of its loops. Assumes nothing.
use Rattle.checksum_table.specs.Table.{TableTo}
use Rattle.checksum_table.proofs.make_table.Given as goal

abbrev pub invariant-loop-k : goal.invariant-loop-k
invariant-loop-k l = TableTo l.k l.table
