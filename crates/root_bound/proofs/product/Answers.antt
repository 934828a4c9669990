-- `root_bound::product`: the answers to its goals. Assumes nothing.
use mathlib.Core.Path.{refl}
use native.Mathlib.Omega.{arith}
use Rattle.root_guess.specs.Products.{mul_lt_pow}
use Rattle.root_bound.proofs.product.Goals as goal

pub overflow_mul-result : goal.overflow_mul-result
overflow_mul-result c = omega (arith, mul_lt_pow 27 27 c.requires.0 c.requires.1)

pub returns : goal.returns
returns c = (refl, mul_lt_pow 27 27 c.requires.0 c.requires.1)
