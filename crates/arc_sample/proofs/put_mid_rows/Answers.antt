-- `arc_sample::put_mid_rows`: the answers to its goals. Assumes nothing.
use Rattle.std.proofs.Common.{◌≡◌, ℕ, ◌-◌, arith}
use Rattle.arc_sample.specs.Rowing.{rowing_none, rowing_more}
use Rattle.arc_sample.specs.Draw.{mid-long}
use Rattle.arc_sample.proofs.put_mid_rows.Goals as goal

pub loop-j-init : goal.loop-j-init
loop-j-init c = rowing_none

pub put_mid_row-requires : goal.put_mid_row-requires
put_mid_row-requires c =
    let pre = c.requires in
    record { drawing_of = pre.drawing_of; row_words_in_bounds = omega arith }

pub loop-j-preserved : goal.loop-j-preserved
loop-j-preserved c =
    let at-loop = c.loop-j in
    let nearest-u64-to-f64 = c.nearest_u64_to_f64-whole in
    let put = rw nearest-u64-to-f64.ensures at c.put_mid_row.ensures in
    rowing_more (λ (i : ℕ). mid-long _ _ _ _ _ i) at-loop.invariant (omega arith) put

pub shape_of-rows : goal.shape_of-rows
shape_of-rows c = c.loop-j.invariant.same

pub returns : goal.returns
returns c =
    let at-loop = c.loop-j in
    let args = c.args in
    let e : at-loop.j ≡ args.n - 1 = omega arith in rw e at at-loop.invariant
