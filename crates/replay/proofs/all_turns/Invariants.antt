-- `replay::all_turns`: what holds at each turn of its loops. Assumes nothing.
use Prim.Native.Nat.{◌≤◌}
use Rattle.replay.proofs.all_turns.Given as goal

abbrev pub invariant-loop-window : goal.invariant-loop-window
invariant-loop-window g l = (l.window.at ≤ l.window.end) × (l.window.end ≤ 65536)

abbrev pub decreases-loop-window : goal.decreases-loop-window
decreases-loop-window g l = l.window.turns
