-- `csv_line::put_crlf`: the answers to its goals. Assumes nothing.
use native.Mathlib.Omega.{arith}
use Rattle.csv_figures.specs.OutLaws.{wrote_then, wrote-length}
use Rattle.csv_line.proofs.put_crlf.Goals as goal

pub put_byte-requires : goal.put_byte-requires
put_byte-requires c = omega (arith, c.put_byte-a.ensures.next, wrote-length c.put_byte-a.ensures)

pub returns : goal.returns
returns c = wrote_then c.put_byte-a.ensures c.put_byte.ensures
