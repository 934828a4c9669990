-- `csv_line::put_bytes`: the answers to its goals. Assumes nothing.
use Rattle.csv_line.proofs.Lines.{pasted}
use Rattle.csv_line.proofs.put_bytes.Goals as goal

pub returns : goal.returns
returns c = pasted _ c.requires c.copy_from_slice.ensures.after
