-- `bspline_point::+eval_for`: what holds at each turn of its loops. Assumes nothing.
use Rattle.bspline_point.proofs.+eval_for.Given as goal

abbrev pub decreases-eval_for : goal.decreases-eval_for
decreases-eval_for l = l.cells
