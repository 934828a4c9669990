-- `checksum_table::by_table`: the answers to its goals. Assumes nothing.
use native.Mathlib.Omega.{arith}
use Rattle.checksum_table.proofs.Looking.{bytes-none, bytes-more, bytes-all}
use Rattle.checksum_table.proofs.by_table.Goals as goal

pub loop-b-init : goal.loop-b-init
loop-b-init c = bytes-none _ c.args.bytes.now

pub loop-b-preserved : goal.loop-b-preserved
loop-b-preserved c = bytes-more _ _ _ c.loop-b.invariant (omega arith) c.looked_up-sum.ensures

pub returns : goal.returns
returns c = bytes-all _ _ _ c.loop-b.invariant (omega arith)
