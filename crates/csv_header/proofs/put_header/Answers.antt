-- `csv_header::put_header`: the answers to its goals. Assumes nothing.
use native.Mathlib.Omega.{arith}
use Rattle.csv_figures.specs.OutLaws.{wrote_then, wrote-length}
use Rattle.csv_header.proofs.put_header.Goals as goal

pub put_crlf-requires : goal.put_crlf-requires
put_crlf-requires c = omega (arith, c.put_bytes-a.ensures.next, wrote-length c.put_bytes-a.ensures)

pub returns : goal.returns
returns c = wrote_then c.put_bytes-a.ensures c.put_crlf.ensures
