-- `night_named::warning_at`: the answers to its goals. Assumes nothing.
use Rattle.night_named.proofs.Naming.{warned-last, warned-not}
use Rattle.night_named.proofs.warning_at.Goals as goal

pub returns-then-i-count : goal.returns-then-i-count
returns-then-i-count c = warned-last _ _ _ c.if-i-count.true

pub returns : goal.returns
returns c = warned-not _ _ _ c.if-i-count.false
