-- `checksum_length::ended`: the answers to its goals. Assumes nothing.
use Prim.Native.Nat.{◌-◌}
use mathlib.Core.Path.{refl}
use native.Mathlib.Omega.{arith}
use Rattle.checksum_length.proofs.Lengths.{length-next, length-all, ended_is}
use Rattle.checksum_length.proofs.ended.Goals as goal

pub loop-init : goal.loop-init
loop-init c = refl

pub loop-preserved : goal.loop-preserved
loop-preserved c = length-next _ (8 - c.loop.counter) _ _ c.loop.invariant (omega arith) c.length_byte-sum.ensures

pub returns : goal.returns
returns c = ended_is _ _ (length-all (8 - c.loop.counter) _ _ c.loop.invariant (omega arith))
