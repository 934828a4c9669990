-- `call_push::push`: the answers to its goals. Assumes nothing.
use Rattle.std.proofs.Common.{sym}
use Rattle.call_push.proofs.Calls.{turned-answer, passed}
use Rattle.call_push.proofs.push.Goals as goal

pub push_block-requires : goal.push_block-requires
push_block-requires c = passed _ _ _ _ (sym c.in-Ok.ensures)

pub returns-in-Err : goal.returns-in-Err
returns-in-Err c = turned-answer _ _ _ _ _ (sym c.in-Err.ensures) c.into.ensures
