-- `still_curved::word_of`: the answers to its goals. Assumes nothing.
use mathlib.Core.Path.{sym}
use lib.ListN.{get_or-eq_default}
use Rattle.still_curved.proofs.word_of.Goals as goal

pub returns : goal.returns
returns c = sym (get_or-eq_default c.args.row.now 0 c.if-k-row.false)
