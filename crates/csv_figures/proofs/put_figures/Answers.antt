-- `csv_figures::put_figures`: the answers to its goals. Assumes nothing.
use native.Mathlib.Omega.{arith}
use Rattle.csv_figures.specs.Figures.{starts, stores, ends}
use Rattle.csv_figures.proofs.put_figures.Goals as goal

pub loop-j-init : goal.loop-j-init
loop-j-init c = starts _ _ _ _

pub loop-j-preserved : goal.loop-j-preserved
loop-j-preserved c = stores _ _ _ _ _ _ _ _ c.loop-j.invariant c.loop-j-test.true c.last_figure.ensures

pub shape_of-out : goal.shape_of-out
shape_of-out c = c.loop-j.invariant.same

pub returns : goal.returns
returns c = ends _ _ _ _ _ _ _ c.loop-j.invariant (omega arith)
