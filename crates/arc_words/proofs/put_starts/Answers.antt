-- `arc_words::put_starts`: the answers to its goals. Assumes nothing.
use native.Mathlib.Omega.{arith}
use Rattle.floats.specs.Fill.{filling-none, filling-more}
use Rattle.arc_words.specs.WordLaws.{filling-whole}
use Rattle.arc_words.proofs.put_starts.Goals as goal

pub loop-k-init : goal.loop-k-init
loop-k-init c = filling-none

pub loop-k-preserved : goal.loop-k-preserved
loop-k-preserved c = filling-more c.loop-k.invariant (omega arith) c.start_on.ensures

pub shape_of-starts : goal.shape_of-starts
shape_of-starts c = c.loop-k.invariant.same

pub returns : goal.returns
returns c = filling-whole c.loop-k.invariant (omega arith) (omega arith)
