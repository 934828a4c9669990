-- `saved_points::point_ok`: the answer to a goal. Assumes nothing.
use Rattle.std.proofs.Common.{sym, ◌∙◌}
use borrow.Author.Tests.{eq-eqb}
use Rattle.saved_points.proofs.Points.{point-none}
use Rattle.saved_points.proofs.point_ok.Goals as goal

pub returns-then-state-w-eq0 : goal.returns-then-state-w-eq0
returns-then-state-w-eq0 c = eq-eqb _ _ c.if-state-w-eq0.true ∙ sym (point-none _ _ c.if-state-w-eq0.true)
