-- `bspline_boor::load_four`: the answers to its goals. Assumes nothing.
use mathlib.Core.Path.{◌≡◌, ap, ◌∙◌}
use Prim.Native.Nat.{ℕ, ◌+◌, ◌*◌, min}
use native.Mathlib.Omega.{arith}
use lib.Ieee.{Float}
use Rattle.floats.specs.Numbers.{at}
use Rattle.bspline_raise.specs.Fours.{four-put}
use Rattle.bspline_boor.proofs.load_four.Goals as goal

pub returns : goal.returns
returns c =
    let args = c.args in
    let at-channel : ℕ → Float = λ (z : ℕ). at args.cw.now (min z args.ch * args.n + args.s) in
    let z : args.c ≡ args.c + 0 = omega arith in
    four-put (λ (j : ℕ). at-channel (args.c + j)) args.d.now args.i (omega arith) (c.number_of-x0.ensures ∙ ap at-channel z)
    c.number_of-x1.ensures c.number_of-x2.ensures c.number_of-x3.ensures
