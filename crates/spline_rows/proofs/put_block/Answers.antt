-- `spline_rows::put_block`: the answers to its goals. Assumes nothing.
use mathlib.Core.Path.{ap, ◌∙◌}
use Rattle.spline_places.specs.SizeLaws.{size_least}
use native.Mathlib.Omega.{arith}
use Rattle.floats.specs.Lists.{spliced}
use Rattle.spline_rows.proofs.Leaves.{block-point, block_out}
use Rattle.spline_rows.proofs.put_block.Goals as goal

pub returns-then-point : goal.returns-then-point
returns-then-point c = c.put_point.ensures ∙ ap (spliced _ _) (block-point _ _ _ _ _ _ _ c.if-point.true)

pub put_row-requires : goal.put_row-requires
put_row-requires c =
    let d = c in
    (d.requires.long, omega (arith, d.requires.room, size_least d.args.c))

pub returns : goal.returns
returns c = c.put_row.ensures ∙ ap (spliced _ _) (block_out _ _ _ _ _ _ _ c.if-point.false)
