-- `saved_state::state::codes_ok`: what holds at each turn of its loop. Assumes nothing.
use Rattle.saved_state.proofs.Marks.{Seen}
use Rattle.saved_state.proofs.state.codes_ok.Given as goal

abbrev pub invariant-loop-code : goal.invariant-loop-code
invariant-loop-code l = Seen l.axes l.code-index l.seen
