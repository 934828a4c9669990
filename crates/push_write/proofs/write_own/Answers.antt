-- `push_write::write_own`: the answers to its goals. Assumes nothing.
use native.Mathlib.Omega.{arith}
use Rattle.push_write.proofs.Writing.{unwritten}
use Rattle.push_write.proofs.write_own.Goals as goal

pub returns-else-plan-gt0 : goal.returns-else-plan-gt0
returns-else-plan-gt0 c = unwritten _ _ _ _ _ (omega arith)
