-- `row_axes::axes_mask`: what holds at each turn of its loops. Assumes nothing.
use Rattle.row_axes.proofs.Marking.{Marking}
use Rattle.row_axes.proofs.axes_mask.Given as goal

abbrev pub invariant-loop-code : goal.invariant-loop-code
invariant-loop-code l = Marking l.codes l.code-index l.m
