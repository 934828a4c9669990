-- `fit_slopes::akima::akima_slopes`: the answers to its goals. Assumes nothing.
use mathlib.Core.Path.{◌∙◌}
use Rattle.fit_slopes.proofs.Slopes.{akima_straight, akima_many}
use Rattle.fit_slopes.proofs.akima.akima_slopes.Goals as goal

pub returns-then-n-eq2 : goal.returns-then-n-eq2
returns-then-n-eq2 c = c.straight_slopes.ensures ∙ akima_straight _ _ _ _ c.if-n-eq2.true

pub returns-else-n-eq2 : goal.returns-else-n-eq2
returns-else-n-eq2 c = c.many_slopes.ensures ∙ akima_many _ _ _ _ c.if-n-eq2.false
