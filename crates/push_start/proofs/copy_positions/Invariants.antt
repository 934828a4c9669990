-- `push_start::copy_positions`: what holds at each turn of its loop. Assumes nothing.
use Rattle.std.proofs.Common.{ℕ, ◌+◌}
use Rattle.std.proofs.Math.Option.{get_or}
use Rattle.floats.specs.Splice.{Splicing}
use Rattle.layout.specs.Layout.{w_start}
use Rattle.saved_state.specs.State.{position}
use Rattle.push_start.proofs.copy_positions.Given as goal

abbrev pub invariant-loop-k : goal.invariant-loop-k
invariant-loop-k l = Splicing (λ (n : ℕ). get_or (position l.initial.state n) 0) (w_start + 1) l.k l.initial.state l.state
