-- `spline_rows::put_point`: the answers to its goals. Assumes nothing.
use mathlib.Core.Path.{ap, ◌∙◌}
use Rattle.spline_places.specs.SizeLaws.{size_least}
use native.Mathlib.Omega.{arith}
use Rattle.floats.specs.Lists.{spliced}
use Rattle.spline_rows.proofs.Leaves.{group_bare, group_run}
use Rattle.spline_rows.proofs.put_point.Goals as goal

pub put_bare-requires : goal.put_bare-requires
put_bare-requires c =
    let d = c in
    record { axes_lt_axis_masks = (d.requires.sound.axes, d.requires.long); row_words_in_bounds = omega (arith, d.requires.room, size_least d.args.c) }

pub returns-then-c-eq0 : goal.returns-then-c-eq0
returns-then-c-eq0 c = c.put_bare.ensures ∙ ap (spliced _ _) (group_bare _ _ _ _ _ _ c.if-c-eq0.true)

pub returns : goal.returns
returns c = c.put_run.ensures ∙ ap (spliced _ _) (group_run _ _ _ _ _ _ c.if-c-eq0.false)
