-- `text_cut::lf_near`: what holds at each turn of its loops. Assumes nothing.
use mathlib.Core.Path.{◌≡◌}
use mathlib.Core.Bool.{false}
use Rattle.text_cut.specs.Seek.{Free}
use Rattle.text_cut.proofs.lf_near.Given as goal

abbrev pub invariant-loop-b : goal.invariant-loop-b
invariant-loop-b l = l.seen ≡ false → Free l.buf l.at l.b-index
