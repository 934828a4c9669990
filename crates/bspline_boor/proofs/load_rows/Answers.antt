-- `bspline_boor::load_rows`: the answers to its goals. Assumes nothing.
use mathlib.Core.Path.{refl}
use Rattle.bspline_boor.proofs.Climbing.{loaded_more}
use Rattle.bspline_boor.proofs.load_rows.Goals as goal

pub loop-h-preserved : goal.loop-h-preserved
loop-h-preserved c = loaded_more c.loop-h.invariant refl c.requires.width.1 c.load_row.ensures
