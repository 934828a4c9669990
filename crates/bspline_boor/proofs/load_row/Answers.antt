-- `bspline_boor::load_row`: the answers to its goals. Assumes nothing.
use mathlib.Core.Path.{refl}
use Prim.Native.Nat.{ℕ, ◌+◌, ◌*◌, min}
use native.Mathlib.Omega.{arith}
use lib.Ieee.{Float}
use Rattle.floats.specs.Numbers.{at}
use Rattle.bspline_raise.specs.Climb.{least_wide}
use Rattle.bspline_boor.proofs.Climbing.{put-end, put_join}
use Rattle.bspline_boor.proofs.load_row.Goals as goal

pub loop-four-preserved : goal.loop-four-preserved
loop-four-preserved c =
    let args = c.args in
    let f : ℕ → Float = λ (z : ℕ). at args.cw.now (min z args.ch * args.n + args.s) in
    put-end (omega arith) (put_join f (λ (j : ℕ). f (c.loop-four.four * least_wide + j)) c.loop-four.invariant refl (λ j h. refl) c.load_four.ensures)
