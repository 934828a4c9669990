-- `night_pieces::put_numbers`: what holds at each turn of its loops. Assumes nothing.
use Rattle.night_pieces.specs.Pieces.{PutNumbers}
use Rattle.night_pieces.proofs.put_numbers.Given as goal

abbrev pub invariant-loop-v : goal.invariant-loop-v
invariant-loop-v l = PutNumbers l.numbers l.from l.v-index l.initial.out l.n l.out l.at
