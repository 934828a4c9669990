-- `csv_words::entry`: the answers to its goals. Assumes nothing.
use Rattle.csv_words.specs.Table.{entry_is}
use Rattle.csv_words.proofs.entry.Goals as goal

pub returns : goal.returns
returns c = entry_is c.args.i
