-- `tally_call::mark_at`: the answers to its goals. Assumes nothing.
use Rattle.tally_call.specs.CallLaws.{mark-word}
use Rattle.tally_call.proofs.mark_at.Goals as goal

pub returns : goal.returns
returns c = mark-word c.args.rows.now c.args.i
