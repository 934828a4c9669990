-- `csv_words::put_word`: the answers to its goals. Assumes nothing.
use Rattle.csv_words.specs.Seeks.{as_word}
use Rattle.csv_words.proofs.put_word.Goals as goal

pub returns : goal.returns
returns c =
    as_word _ _ c.requires.1 c.entry-w.ensures c.put_chars.ensures
