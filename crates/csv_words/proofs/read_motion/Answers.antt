-- `csv_words::read_motion`: the answers to its goals. Assumes nothing.
use Rattle.std.proofs.Common.{◌∙◌}
use Rattle.csv_words.specs.Seeks.{motion-is}
use Rattle.csv_words.proofs.read_motion.Goals as goal

pub returns : goal.returns
returns c = c.find.ensures ∙ motion-is _
