-- `curve_put::put_point`: the answers to its goals. Assumes nothing.
use mathlib.Core.Path.{◌≡◌}
use lib.ListN.{length}
use native.Mathlib.Omega.{arith}
use Rattle.floats.specs.Splice.{splicing_none, splicing_more}
use Rattle.curve_walk.specs.Writing.{written-point}
use Rattle.curve_put.proofs.put_point.Goals as goal

pub loop-k-init : goal.loop-k-init
loop-k-init c = splicing_none

pub loop-k-preserved : goal.loop-k-preserved
loop-k-preserved c = splicing_more c.loop-k.invariant (omega arith) c.bits.ensures

pub returns : goal.returns
returns c =
    let end : c.loop-k.k ≡ length c.args.p.now = omega arith in
    written-point _ (omega arith) (rw end at c.loop-k.invariant)
