-- `bspline_low::low::top`: the answers to its goals. Assumes nothing.
use mathlib.Core.Path.{sym, ◌∙◌}
use native.Mathlib.Omega.{arith}
use Rattle.bspline_low.specs.LowLaws.{by_one, by_two}
use Rattle.bspline_low.proofs.low.top.Goals as goal

pub returns-then-p-eq1 : goal.returns-then-p-eq1
returns-then-p-eq1 c = c.top_one.ensures ∙ sym (by_one _ _ _ _ (omega arith))

pub returns : goal.returns
returns c = c.top_two.ensures ∙ sym (by_two _ _ _ _ (omega arith))
