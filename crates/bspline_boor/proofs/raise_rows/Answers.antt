-- `bspline_boor::raise_rows`: the answers to its goals. Assumes nothing.
use mathlib.Core.Path.{refl}
use Rattle.bspline_boor.proofs.Climbing.{level-more}
use Rattle.bspline_boor.proofs.raise_rows.Goals as goal

pub loop-h-preserved : goal.loop-h-preserved
loop-h-preserved c = level-more c.loop-h.invariant refl c.share_at.ensures c.raise_row.ensures
