-- `arc_words::put_starts`: what holds at each turn of its loops. Assumes nothing.
use Rattle.floats.specs.Fill.{Filling}
use Rattle.row_cells.specs.Row.{shown}
use Rattle.arc_words.specs.Words.{start_of}
use Rattle.arc_words.proofs.put_starts.Given as goal

abbrev pub invariant-loop-k : goal.invariant-loop-k
invariant-loop-k l = Filling (start_of l.row (shown l.known l.at)) l.k l.initial.starts l.starts
