-- `row_axes::axes_mask`: the answers to its goals. Assumes nothing.
use native.Mathlib.Omega.{arith}
use Rattle.row_axes.proofs.Marking.{marking_none, marking_more, marked}
use Rattle.row_axes.proofs.axes_mask.Goals as goal

pub loop-code-init : goal.loop-code-init
loop-code-init c = marking_none _

pub loop-code-preserved : goal.loop-code-preserved
loop-code-preserved c = marking_more _ _ _ c.loop-code.invariant c.with_axis-m.ensures (omega arith)

pub returns : goal.returns
returns c = marked _ _ _ c.loop-code.invariant (omega arith)
