-- `row_lay::lay_cells`: the answers to its goals. Assumes nothing.
use mathlib.Core.Path.{refl}
use native.Mathlib.Omega.{arith}
use Rattle.row_cells.specs.BitWalk.{at-bit}
use Rattle.row_lay.proofs.Laying.{laying_first, laying_more, laid}
use Rattle.row_lay.proofs.lay_cells.Goals as goal

pub loop-rest-init : goal.loop-rest-init
loop-rest-init c = laying_first c.requires.small

pub offset_bounds-words-k : goal.offset_bounds-words-k
offset_bounds-words-k c = omega (arith, (at-bit c.loop-rest.invariant.bits (omega arith) c.lowest_bit-k.ensures).below)

pub bounds-words-k : goal.bounds-words-k
bounds-words-k c =
    let low = c in
    let at = low in
    at.requires.there _ (at-bit at.loop-rest.invariant.bits (omega arith) low.lowest_bit-k.ensures).there

pub overflow_add-rows : goal.overflow_add-rows
overflow_add-rows c =
    let low = c in
    let s = low.loop-rest.invariant in
    omega (arith, (at-bit s.bits (omega arith) low.lowest_bit-k.ensures).below, s.same)

pub offset_bounds-rows-at : goal.offset_bounds-rows-at
offset_bounds-rows-at c =
    let low = c in
    let s = low.loop-rest.invariant in
    omega (arith, (at-bit s.bits (omega arith) low.lowest_bit-k.ensures).below, s.same)

pub bounds-rows-at : goal.bounds-rows-at
bounds-rows-at c =
    let low = c in
    let s = low.loop-rest.invariant in
    omega (arith, (at-bit s.bits (omega arith) low.lowest_bit-k.ensures).below, s.same)

pub loop-rest-smaller : goal.loop-rest-smaller
loop-rest-smaller c =
    let low = c in
    omega (arith, (at-bit low.loop-rest.invariant.bits (omega arith) low.lowest_bit-k.ensures).fewer)

pub loop-rest-preserved : goal.loop-rest-preserved
loop-rest-preserved c =
    let low = c in
    laying_more low.loop-rest.invariant (omega arith) low.lowest_bit-k.ensures c.other_bits-rest.ensures refl

pub shape_of-rows : goal.shape_of-rows
shape_of-rows c = omega (arith, c.loop-rest.invariant.same)

pub returns : goal.returns
returns c = laid c.loop-rest.invariant (omega arith)
