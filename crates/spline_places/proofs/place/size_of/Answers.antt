-- `spline_places::place::size_of`: the answers to its goals. Assumes nothing.
use Rattle.spline_places.specs.SizeLaws.{size_zero, size_some}
use Rattle.spline_places.proofs.place.size_of.Goals as goal

pub returns-then-c-eq0 : goal.returns-then-c-eq0
returns-then-c-eq0 c = size_zero _ c.if-c-eq0.true

pub returns-else-c-eq0 : goal.returns-else-c-eq0
returns-else-c-eq0 c = size_some _ c.if-c-eq0.false
