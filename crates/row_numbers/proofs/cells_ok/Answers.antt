-- `row_numbers::cells_ok`: the answers to its goals. Assumes nothing.
use mathlib.Core.Path.{sym, ◌∙◌}
use native.Mathlib.Omega.{arith}
use Rattle.layout.specs.Layout.{cells}
use Rattle.floats.specs.Truth.{all_intro, all-fails}
use Rattle.row_numbers.specs.MaskCheck.{mask_cell_ok, mask_ok}
use Rattle.row_numbers.proofs.FirstCells.{absent-ok, there-ok}
use Rattle.row_cells.specs.BitWalk.{AtBit, at-bit, walking_all, walking_more, walked}
use Rattle.row_numbers.proofs.cells_ok.Goals as goal

pub loop-rest-init : goal.loop-rest-init
loop-rest-init c = walking_all (omega arith) (omega arith) (λ k l h. absent-ok _ _ k h)

pub overflow_add-lowest_bit : goal.overflow_add-lowest_bit
overflow_add-lowest_bit c = omega (arith, (at-bit c.loop-rest.invariant.bits (omega arith) c.lowest_bit.ensures).below)

pub offset_bounds-row-lowest_bit : goal.offset_bounds-row-lowest_bit
offset_bounds-row-lowest_bit c = omega (arith, (at-bit c.loop-rest.invariant.bits (omega arith) c.lowest_bit.ensures).below)

pub bounds-row-lowest_bit : goal.bounds-row-lowest_bit
bounds-row-lowest_bit c = omega (arith, (at-bit c.loop-rest.invariant.bits (omega arith) c.lowest_bit.ensures).below)

pub returns-then-not-within_range : goal.returns-then-not-within_range
unfolding mask_ok
returns-then-not-within_range c =
    let asked = c in
    let low = asked in
    let a : AtBit _ cells _ _ = at-bit low.loop-rest.invariant.bits (omega arith) low.lowest_bit.ensures in
    let out = there-ok _ _ _ a.there ∙ sym asked.within_range.ensures ∙ c.if-not-within_range.true in
    sym (all-fails cells (mask_cell_ok _ _) low.lowest_bit.result a.below out)

pub loop-rest-smaller : goal.loop-rest-smaller
loop-rest-smaller c =
    let low = c in
    omega (arith, (at-bit low.loop-rest.invariant.bits (omega arith) low.lowest_bit.ensures).fewer)

pub loop-rest-preserved : goal.loop-rest-preserved
loop-rest-preserved c =
    let one = c in
    let low = one in
    let w = low.loop-rest.invariant in
    let a = at-bit w.bits (omega arith) low.lowest_bit.ensures in
    let fine = there-ok _ _ _ a.there ∙ sym one.within_range.ensures ∙ one.if-not-within_range.false in
    walking_more w (omega arith) low.lowest_bit.ensures c.other_bits-rest.ensures fine

pub returns : goal.returns
unfolding mask_ok
returns c = sym (all_intro cells (mask_cell_ok _ _) (walked c.loop-rest.invariant (omega arith)))
