-- `curve_write::+write_walk`: what holds at each turn of its loops. Assumes nothing.
use Rattle.curve_write.proofs.+write_walk.Given as goal

abbrev pub decreases-write_walk : goal.decreases-write_walk
decreases-write_walk l = l.h.left
