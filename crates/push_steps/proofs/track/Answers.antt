-- `push_steps::track`: the answers to its goals. Assumes nothing.
use mathlib.Core.Path.{◌∙◌}
use native.Mathlib.Omega.{arith}
use Rattle.push_steps.proofs.Tracks.{tracked-long, tracked-none, tracked-axis, tracked-fewer, tracked-more, tracked}
use Rattle.push_steps.proofs.track.Goals as goal

pub loop-rest-init : goal.loop-rest-init
loop-rest-init c = let p = c.requires in (tracked-none _ _ p.1, p.0)

pub overflow_add-k : goal.overflow_add-k
overflow_add-k c = omega (arith, tracked-axis _ _ c.loop-rest.invariant.0 (omega arith) c.lowest_bit-k.ensures)

pub offset_bounds-row-k : goal.offset_bounds-row-k
offset_bounds-row-k c = omega (arith, tracked-axis _ _ c.loop-rest.invariant.0 (omega arith) c.lowest_bit-k.ensures)

pub bounds-row-k : goal.bounds-row-k
bounds-row-k c =
    omega (arith, tracked-axis _ _ c.loop-rest.invariant.0 (omega arith) c.lowest_bit-k.ensures, c.loop-rest.invariant.1.wide)

pub place-requires : goal.place-requires
place-requires c =
    (tracked-long _ _ c.loop-rest.invariant.0 ∙ c.loop-rest.invariant.1.long, tracked-axis _ _ c.loop-rest.invariant.0 (omega arith) c.lowest_bit-k.ensures)

pub loop-rest-smaller : goal.loop-rest-smaller
loop-rest-smaller c =
    omega (arith, tracked-fewer _ _ c.loop-rest.invariant.0 (omega arith) c.lowest_bit-k.ensures)

pub loop-rest-preserved : goal.loop-rest-preserved
loop-rest-preserved c =
    (tracked-more _ _ c.loop-rest.invariant.0 (omega arith) c.lowest_bit-k.ensures c.other_bits-rest.ensures c.place.ensures, c.loop-rest.invariant.1)

pub shape_of-state : goal.shape_of-state
shape_of-state c = tracked-long _ _ c.loop-rest.invariant.0

pub returns : goal.returns
returns c = tracked _ _ c.loop-rest.invariant.0 (omega arith)
