-- `bspline_boor::climb_up`: the answers to its goals. Assumes nothing.
use mathlib.Core.Path.{refl}
use native.Mathlib.Numerals.{add-one}
use Rattle.bspline_boor.proofs.Climbing.{climbed_none, climbed_more}
use Rattle.bspline_boor.proofs.climb_up.Goals as goal

pub loop-r-init : goal.loop-r-init
loop-r-init c = climbed_none _ _ _ _ _ _

pub loop-r-preserved : goal.loop-r-preserved
loop-r-preserved c = climbed_more _ _ _ _ _ _ (add-one _) refl c.loop-r-test.true c.loop-r.invariant c.raise_rows.ensures
