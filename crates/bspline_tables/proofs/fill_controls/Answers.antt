-- `bspline_tables::fill_controls`: the answers to its goals. Assumes nothing.
use mathlib.Core.Path.{ap, ◌∙◌}
use native.Mathlib.Omega.{arith}
use Rattle.floats.specs.Lists.{upto}
use Rattle.floats.specs.Parts.{next_row}
use Rattle.bspline_tables.specs.RowLaws.{rowing_put, rowing_all, part_length}
use Rattle.bspline_tables.proofs.Controls.{weights_are, lift1}
use Rattle.bspline_tables.proofs.fill_controls.Goals as goal

pub loop-c-preserved : goal.loop-c-preserved
loop-c-preserved c =
    let pre = c.requires in
    let inv = c.loop-c.invariant in
    let lt = lift1 c.loop-c-test.true in
    let s = part_length inv.1 lt pre.ch_in_bounds.1.1 inv.0 in
    (next_row _ _ _ inv.0, rowing_put inv.1 lt pre.ch_in_bounds.1.1 inv.0 c.channel.auto.out (c.channel.ensures ∙ ap (upto _) s))

pub returns : goal.returns
returns c =
    let pre = c.requires in
    let inv = c.loop-c.invariant in
    let last = c.copy in
    rowing_all (rowing_put inv.1 (omega arith) pre.ch_in_bounds.1.1 inv.0 last.auto.to
    (last.ensures ∙ weights_are _ _ _ _ _ (omega arith) pre.ch_in_bounds.1.0)) (omega arith)
