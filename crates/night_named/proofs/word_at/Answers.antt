-- `night_named::word_at`: the answers to its goals. Assumes nothing.
use Rattle.night_named.proofs.Naming.{word-is}
use Rattle.night_named.proofs.word_at.Goals as goal

pub returns : goal.returns
returns c = word-is c.args.rows.now c.args.i _ c.requires.1
