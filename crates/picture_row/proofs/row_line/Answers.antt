-- `picture_row::row_line`: the answers to its goals. Assumes nothing.
use Rattle.std.proofs.Common.{arith}
use Rattle.picture_pen.specs.DrawLaws.{drew_short}
use Rattle.picture_row.proofs.row_line.Goals as goal

pub returns : goal.returns
returns c = let h = drew_short c.draw-drawn.ensures in record { out = h; err = omega arith }
