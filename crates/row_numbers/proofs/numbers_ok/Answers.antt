-- `row_numbers::numbers_ok`: the answers to its goals. Assumes nothing.
use mathlib.Core.Path.{sym, ◌∙◌}
use Rattle.floats.specs.Truth.{and_t, and_f}
use Rattle.row_numbers.proofs.FirstCells.{numbers-mask, three-apart}
use Rattle.row_numbers.proofs.numbers_ok.Goals as goal

pub returns-then-present-ne-XYZ : goal.returns-then-present-ne-XYZ
returns-then-present-ne-XYZ c = c.cells_ok.ensures ∙ sym (numbers-mask _)

pub returns-then-three_within : goal.returns-then-three_within
returns-then-three_within c =
    let apart = numbers-mask _ ∙ three-apart _ c.if-present-ne-XYZ.false _ in
    c.cells_ok-then-three_within.ensures ∙ sym (apart ∙ and_t _ (sym c.three_within.ensures ∙ c.if-three_within.true))

pub returns-else-three_within : goal.returns-else-three_within
returns-else-three_within c =
    let apart = numbers-mask _ ∙ three-apart _ c.if-present-ne-XYZ.false _ in
    c.if-three_within.false ∙ sym (apart ∙ and_f _ (sym c.three_within.ensures ∙ c.if-three_within.false))
