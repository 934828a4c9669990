-- `saved_rows::held_rows_ok`: what holds at each turn of its loop. Assumes nothing.
use Rattle.std.proofs.Common.{◌≡◌, true}
use Rattle.floats.specs.Lists.{all}
use Rattle.saved_state.specs.State.{held_row_ok}
use Rattle.saved_rows.proofs.held_rows_ok.Given as goal

abbrev pub invariant-loop-i : goal.invariant-loop-i
invariant-loop-i l = all l.i (held_row_ok l.state l.store) ≡ true
