-- `curve_count::+count_walk`: what holds at each turn of its loops. Assumes nothing.
use Rattle.curve_count.proofs.+count_walk.Given as goal

abbrev pub decreases-count_walk : goal.decreases-count_walk
decreases-count_walk l = l.h.left
