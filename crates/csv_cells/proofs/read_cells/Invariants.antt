-- `csv_cells::read_cells`: what holds at each turn of its loop. Assumes nothing.
use Rattle.csv_cells.proofs.Reading.{Taking}
use Rattle.csv_cells.proofs.read_cells.Given as goal

abbrev pub invariant-loop-i : goal.invariant-loop-i
invariant-loop-i l = Taking l.text l.initial.row l.at l.mask l.i l.row
