-- `fit_cubic::natural_cubic_slopes`: the answers to its goals. Assumes nothing.
use mathlib.Core.Path.{◌∙◌}
use native.Mathlib.Omega.{arith}
use Rattle.fit_cubic.proofs.Knots.{cubic-straight, cubic-many}
use Rattle.fit_cubic.proofs.natural_cubic_slopes.Goals as goal

pub returns-then-n-eq2 : goal.returns-then-n-eq2
returns-then-n-eq2 c = c.straight_slopes.ensures ∙ cubic-straight _ _ _ _ c.if-n-eq2.true

pub returns-then-n-le-SMALL_POINTS : goal.returns-then-n-le-SMALL_POINTS
returns-then-n-le-SMALL_POINTS c = c.bent_in.ensures ∙ cubic-many _ _ _ _ c.if-n-eq2.false (omega arith)

pub returns-else-n-le-SMALL_POINTS : goal.returns-else-n-le-SMALL_POINTS
returns-else-n-le-SMALL_POINTS c = c.bent_in-else-n-le-SMALL_POINTS.ensures ∙ cubic-many _ _ _ _ c.if-n-eq2.false (omega arith)
