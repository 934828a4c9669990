-- `picture_piece::put_count`: the answers to its goals. Assumes nothing.
use native.Mathlib.Omega.{arith}
use Rattle.csv_decimal.specs.Widths.{width-ten}
use Rattle.csv_figures.specs.Writers.{whole_length}
use Rattle.picture_piece.specs.GrewLaws.{grew}
use Rattle.picture_piece.proofs.put_count.Goals as goal

pub returns : goal.returns
returns c =
    let b5 = c in
    let v = (b5.args.v) in grew _ (omega (arith, whole_length v, width-ten v)) c.put_whole.ensures
