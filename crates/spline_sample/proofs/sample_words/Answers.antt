-- `spline_sample::sample_words`: the answers to its goals. Assumes nothing.
use mathlib.Core.Path.{◌≡◌}
use native.Mathlib.Omega.{arith}
use Rattle.floats.specs.Fill.{filling-none, filling-more}
use Rattle.layout.specs.Layout.{axis_codes}
use Rattle.spline_sample.proofs.sample_words.Goals as goal

pub loop-k-init : goal.loop-k-init
loop-k-init c = filling-none

pub loop-k-preserved : goal.loop-k-preserved
loop-k-preserved c = filling-more c.loop-k.invariant (omega arith) c.sample_word.ensures

pub returns : goal.returns
returns c = let e : c.loop-k.k ≡ axis_codes = omega arith in rw e at c.loop-k.invariant.is
