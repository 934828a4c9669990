-- `row_make::put_made_cells`: the answers to its goals. Assumes nothing.
use mathlib.Core.Path.{ap, ◌∙◌}
use native.Mathlib.Omega.{arith}
use Rattle.floats.specs.Lists.{spliced}
use Rattle.row_made.specs.Making.{point_lays, later-cells}
use Rattle.row_make.proofs.put_made_cells.Goals as goal

pub put_cells-requires : goal.put_cells-requires
put_cells-requires c =
    let of = c.requires.0 in
    point_lays _ _ _ _ (omega arith) of.point of.wide

pub returns-then-made : goal.returns-then-made
returns-then-made c =
    let put = c in
    rw put.if-made.true put.put_first_cells.ensures

pub returns-else-made : goal.returns-else-made
returns-else-made c =
    let put = c in
    rw put.if-made.false (put.put_cells.ensures ∙ ap (spliced _ _) (later-cells _ _ _ _))
