-- `checksum_table::make_table`: the answers to its goals. Assumes nothing.
use native.Mathlib.Omega.{arith}
use Rattle.checksum_table.proofs.Looking.{table_none, table_more, table-all}
use Rattle.checksum_table.proofs.make_table.Goals as goal

pub loop-k-init : goal.loop-k-init
loop-k-init c = table_none c.requires

pub loop-k-preserved : goal.loop-k-preserved
loop-k-preserved c = table_more c.loop-k.invariant (omega (arith, c.requires)) c.eight_steps.ensures

pub returns : goal.returns
returns c = table-all _ (omega (arith, c.requires)) c.loop-k.invariant
