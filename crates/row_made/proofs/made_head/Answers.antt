-- `row_made::made_head`: the answers to its goals. Assumes nothing.
use Rattle.row_made.specs.Making.{head-same}
use Rattle.row_made.proofs.made_head.Goals as goal

pub returns : goal.returns
returns c =
    let mark = c in
    let plane = mark in
    let motion = plane in
    let mask = motion in
    head-same motion.if_first.ensures plane.if_first-2.ensures mark.if_first-3.ensures c.if_first-4.ensures mask.made_mask-present.ensures
