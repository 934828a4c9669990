-- `bspline_boor::load_row`: what holds at each turn of its loops. Assumes nothing.
use Prim.Native.Nat.{ℕ, ◌+◌, ◌*◌, min}
use Rattle.floats.specs.Numbers.{at}
use Rattle.bspline_raise.specs.Climb.{least_wide, Put}
use Rattle.bspline_boor.proofs.load_row.Given as goal

abbrev pub invariant-loop-four : goal.invariant-loop-four
invariant-loop-four l = Put (λ (z : ℕ). at l.cw (min z l.ch * l.n + l.s)) l.initial.d l.d l.i (l.four * least_wide)
