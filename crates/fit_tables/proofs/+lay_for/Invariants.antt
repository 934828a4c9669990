-- `fit_tables::+lay_for`: what holds at each turn of its loops. Assumes nothing.
use Rattle.fit_tables.proofs.+lay_for.Given as goal

abbrev pub decreases-lay_for : goal.decreases-lay_for
decreases-lay_for l = l.size
