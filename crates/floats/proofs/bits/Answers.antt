-- `floats::bits`: the answers to its goals. Assumes nothing.
use mathlib.Core.Path.{sym, ap, ◌∙◌}
use lib.Ieee.{binary64, to_bits}
use lib.Ieee.Compare.{differs_from_itself}
use denote.Floats.{passes}
use Rattle.floats.proofs.Nans.{not_nan, nan-bits}
use Rattle.floats.proofs.bits.Goals as goal

pub float_to_bits-result : goal.float_to_bits-result
float_to_bits-result c = not_nan _ c.if-x.false

pub returns-then-x : goal.returns-then-x
returns-then-x c = sym (ap (to_bits binary64) (differs_from_itself _ (passes _ c.if-x.true)) ∙ nan-bits)
