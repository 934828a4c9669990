-- `fit_slopes::akima::akima_of`: the answers to its goals. Assumes nothing.
use Rattle.fit_slopes.specs.Akima.{akima_of}
use Rattle.fit_slopes.proofs.akima.akima_of.Goals as goal

pub returns-then-w1-w2 : goal.returns-then-w1-w2
unfolding akima_of
returns-then-w1-w2 c = rw (← c.abs-w1.ensures, ← c.abs-w2.ensures, c.if-w1-w2.true)

pub returns-else-w1-w2 : goal.returns-else-w1-w2
unfolding akima_of
returns-else-w1-w2 c = rw (← c.abs-w1.ensures, ← c.abs-w2.ensures, c.if-w1-w2.false)
