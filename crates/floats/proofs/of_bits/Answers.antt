-- `floats::of_bits`: the answers to its goals. Assumes nothing.
use mathlib.Core.Path.{sym, ◌∙◌}
use Rattle.floats.proofs.Nans.{low-not, high_nan, zero-over-zero}
use Rattle.floats.proofs.of_bits.Goals as goal

pub float_from_bits-result : goal.float_from_bits-result
float_from_bits-result c = low-not _ c.if-n-gt9218868437227405312.false

pub returns-then-n-gt9218868437227405312 : goal.returns-then-n-gt9218868437227405312
returns-then-n-gt9218868437227405312 c = zero-over-zero ∙ sym (high_nan _ c.if-n-gt9218868437227405312.true)
