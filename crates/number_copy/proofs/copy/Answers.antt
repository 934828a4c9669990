-- `number_copy::copy`: the answers to its goals. Assumes nothing.
use Rattle.std.proofs.Common.{refl, arith}
use Rattle.floats.specs.Fill.{filling-none, filling-more}
use Rattle.number_copy.specs.Copies.{copied}
use Rattle.number_copy.proofs.copy.Goals as goal

pub loop-i-init : goal.loop-i-init
loop-i-init c = filling-none

pub loop-i-preserved : goal.loop-i-preserved
loop-i-preserved c = filling-more c.loop-i.invariant (omega arith) refl

pub returns : goal.returns
returns c = copied _ _ c.requires (omega arith) c.loop-i.invariant.is
