-- `bspline_low::low::share_at`: the answers to its goals. Assumes nothing.
use Rattle.bspline_tables.specs.Basis.{share}
use Rattle.bspline_low.proofs.low.share_at.Goals as goal

pub returns-then-abs : goal.returns-then-abs
unfolding share
returns-then-abs c = rw (← c.abs.ensures, c.if-abs.true)

pub returns-else-abs : goal.returns-else-abs
unfolding share
returns-else-abs c = rw (← c.abs.ensures, c.if-abs.false)
