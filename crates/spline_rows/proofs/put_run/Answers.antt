-- `spline_rows::put_run`: the answers to its goals. Assumes nothing.
use mathlib.Core.Path.{refl}
use native.Mathlib.Omega.{arith}
use Rattle.spline_rows.proofs.Backward.{backward_none}
use Rattle.spline_rows.proofs.Spreading.{run-again, run_end, puts_same}
use Rattle.spline_rows.proofs.put_run.Goals as goal

pub loop-t-init : goal.loop-t-init
loop-t-init c = backward_none _ _ _ _ _ refl

pub put_sample-requires : goal.put_sample-requires
put_sample-requires c =
    let d = c in
    (puts_same _ _ _ _ _ _ _ d.loop-t.invariant.same d.requires, omega arith)

pub loop-t-preserved : goal.loop-t-preserved
loop-t-preserved c =
    let d = c in
    let inv = d.loop-t.invariant in
    let put = c.put_sample in
    let pre = d.requires in
    run-again _ _ _ _ _ _ pre _ _ _ d.loop-t-test.true (omega arith) inv put.auto.rows put.ensures

pub shape_of-rows : goal.shape_of-rows
shape_of-rows c = c.loop-t.invariant.same

pub returns : goal.returns
returns c = run_end _ _ _ _ _ _ c.requires _ _ (omega arith) c.loop-t.invariant
