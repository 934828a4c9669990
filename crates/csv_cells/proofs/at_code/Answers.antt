-- `csv_cells::at_code`: the answers to its goals. Assumes nothing.
use Rattle.csv_cells.proofs.Reading.{one_shifted}
use Rattle.csv_cells.proofs.at_code.Goals as goal

pub returns : goal.returns
returns c = one_shifted _ _ c.requires.0 c.requires.1
