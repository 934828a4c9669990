-- `night_named::is_further`: the answers to its goals. Assumes nothing.
use Rattle.night_named.proofs.Naming.{first-not, further-by}
use Rattle.night_named.proofs.is_further.Goals as goal

pub returns-then-i-eq0 : goal.returns-then-i-eq0
returns-then-i-eq0 c = first-not _ _ c.if-i-eq0.true

pub returns : goal.returns
returns c = further-by _ _ c.if-i-eq0.false c.word_at.ensures
