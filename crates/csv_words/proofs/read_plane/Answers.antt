-- `csv_words::read_plane`: the answers to its goals. Assumes nothing.
use Rattle.std.proofs.Common.{◌∙◌, sym, arith}
use Rattle.std.proofs.lemmas.Grind.{common_steps}
use Rattle.csv_words.specs.Seeks.{plane-empty, plane-found, plane-lost}
use Rattle.csv_words.proofs.read_plane.Goals as goal

pub returns-then-is_empty : goal.returns-then-is_empty
returns-then-is_empty c = plane-empty _ (grind (arith, common_steps))

pub overflow_add-result : goal.overflow_add-result
overflow_add-result c = omega (arith, (plane-found c.args.s.now c.in_ok-i.i (grind (arith, common_steps)) (sym c.in_ok-i.was ∙ c.find.ensures)).0)

pub returns-in_err-i : goal.returns-in_err-i
returns-in_err-i c =
    c.from_residual.ensures ∙ plane-lost c.args.s.now (grind (arith, common_steps)) (sym c.in_err-i.was ∙ c.find.ensures)

pub returns : goal.returns
returns c = (plane-found c.args.s.now c.in_ok-i.i (grind (arith, common_steps)) (sym c.in_ok-i.was ∙ c.find.ensures)).1
