-- `spline_rows::spread_block`: the answers to its goals. Assumes nothing.
use Rattle.spline_rows.proofs.Spreading.{block-before, block_index, block_puts, block-done}
use mathlib.Core.Path.{◌∙◌}
use Rattle.spline_rows.proofs.spread_block.Goals as goal

pub has_point-point-requires : goal.has_point-point-requires
has_point-point-requires c = c.requires.long

pub before_block-before-requires : goal.before_block-before-requires
before_block-before-requires c = block-before _ _ _ _ _ _ _ c.requires _ c.has_point-point.ensures

pub samples_of-c-requires : goal.samples_of-c-requires
samples_of-c-requires c =
    let pre = c.requires in
    block_index _ _ _ _ _ _ _ pre _ c.has_point-point.ensures _ c.before_block-before.ensures

pub put_block-requires : goal.put_block-requires
put_block-requires c =
    let d = c in
    let pre = d.requires in
    block_puts _ _ _ _ _ _ _ pre _ d.has_point-point.ensures _ _ d.before_block-before.ensures c.samples_of-c.ensures

pub returns : goal.returns
returns c =
    let d = c in
    let point = d.has_point-point.ensures in
    let pre = d.requires in
    let put = block-done _ _ _ _ _ _ _ pre _ point _ _ _ c.samples_of-c.ensures c.put_block.ensures in
    record { value = d.before_block-before.ensures ∙ rw point; held_put = put }
