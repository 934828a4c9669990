-- `push_check::check_push`: the answers to its goals. Assumes nothing.
use Rattle.std.proofs.Common.{sym}
use Rattle.push_resolve.specs.BlockLaws.{block}
use Rattle.saved_state.specs.Checked.{saved-ok}
use Rattle.push_check.proofs.DueLaws.{due-full, due-block}
use Rattle.push_check.proofs.check_push.Goals as goal

pub resolve-b-requires : goal.resolve-b-requires
resolve-b-requires c = block _ _ (saved-ok _ _ (sym c.in_ok-saved_check.ensures)) (sym c.in_ok-check_row.ensures)

pub returns-then-is_full : goal.returns-then-is_full
returns-then-is_full c = due-full _ _ _ c.in_ok-saved_check.ensures c.in_ok-check_row.ensures _ c.resolve-b.ensures _ c.is_full.ensures c.if-is_full.true

pub returns : goal.returns
returns c = due-block _ _ _ c.in_ok-saved_check.ensures c.in_ok-check_row.ensures _ c.resolve-b.ensures _ c.is_full.ensures c.if-is_full.false
