-- `night_pieces::put_next`: the answers to its goals. Assumes nothing.
use native.Mathlib.Omega.{arith}
use Rattle.csv_figures.specs.OutLaws.{wrote-length}
use Rattle.night_pieces.proofs.Writing.{next-put}
use Rattle.night_pieces.proofs.put_next.Goals as goal

pub put_whole-requires : goal.put_whole-requires
put_whole-requires c = omega (arith, c.put_byte-a.ensures.next, wrote-length c.put_byte-a.ensures)

pub returns : goal.returns
returns c = next-put _ c.put_byte-a.ensures c.put_whole.ensures
