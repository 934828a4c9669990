-- `arc_words::put_spans`: the answers to its goals. Assumes nothing.
use native.Mathlib.Omega.{arith}
use Rattle.floats.specs.Fill.{filling-none, filling-more}
use Rattle.arc_words.specs.Words.{span_of}
use Rattle.arc_words.specs.WordLaws.{filling-whole}
use Rattle.arc_words.proofs.put_spans.Goals as goal

pub loop-k-init : goal.loop-k-init
loop-k-init c = filling-none

pub loop-k-preserved : goal.loop-k-preserved
unfolding span_of
loop-k-preserved c = filling-more c.loop-k.invariant (omega arith) (rw c.of_bits.ensures)

pub shape_of-spans : goal.shape_of-spans
shape_of-spans c = c.loop-k.invariant.same

pub returns : goal.returns
returns c = filling-whole c.loop-k.invariant (omega arith) (omega arith)
