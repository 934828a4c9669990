-- `night_pieces::put_text`: the answers to its goals. Assumes nothing.
use native.Mathlib.Omega.{arith}
use Rattle.csv_figures.specs.OutLaws.{wrote_then, wrote-length}
use Rattle.night_pieces.proofs.put_text.Goals as goal

pub put_bytes-requires : goal.put_bytes-requires
put_bytes-requires c = omega (arith, c.put_byte-a.ensures.next, wrote-length c.put_byte-a.ensures)

pub returns : goal.returns
returns c = wrote_then c.put_byte-a.ensures c.put_bytes.ensures
