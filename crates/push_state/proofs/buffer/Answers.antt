-- `push_state::buffer`: the answers to its goals. Assumes nothing.
use native.Mathlib.Omega.{arith}
use lib.ListN.{length-set}
use Rattle.push_state.proofs.Degree.{buffer-done}
use Rattle.push_state.proofs.buffer.Goals as goal

pub bounds-state-61-2 : goal.bounds-state-61-2
bounds-state-61-2 c = simp length-set (omega arith)

pub returns : goal.returns
returns c = buffer-done _ _ _ _ c.open_first.ensures c.degree_with.ensures
