-- `picture_fit::drawn`: the answers to its goals. Assumes nothing.
use native.Mathlib.Omega.{arith}
use Rattle.picture_fit.specs.FitLaws.{product_small}
use Rattle.picture_fit.proofs.drawn.Goals as goal

pub overflow_mul-units : goal.overflow_mul-units
overflow_mul-units c = record { fits = omega (arith, product_small _ _ c.requires.0 c.requires.1) }
