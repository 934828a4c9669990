-- `saved_points::point_axes_ok`: the answers to its goals. Assumes nothing.
use Rattle.std.proofs.Common.{◌∙◌}
use mathlib.Core.Path.{sym}
use native.Mathlib.Omega.{arith}
use Rattle.layout.specs.Layout.{axis_codes}
use Rattle.floats.specs.Truth.{all_intro, all-fails}
use Rattle.row_cells.specs.BitWalk.{at-bit, AtBit, walking_all, walking_more, walked}
use Rattle.saved_state.specs.State.{point_at_ok}
use Rattle.saved_points.proofs.Points.{point-absent}
use Rattle.saved_points.proofs.point_axes_ok.Goals as goal

pub loop-rest-init : goal.loop-rest-init
loop-rest-init c = walking_all (omega arith) c.requires.1 (λ k l h. point-absent _ _ k h)

pub point_at_ok-requires : goal.point_at_ok-requires
point_at_ok-requires c =
    let at = c in
    let a : AtBit _ axis_codes _ _ = at-bit at.loop-rest.invariant.bits (omega arith) c.lowest_bit.ensures in
    (at.requires.0, (a.there, a.below))

pub returns-then-not-point_at_ok : goal.returns-then-not-point_at_ok
returns-then-not-point_at_ok c =
    let asked = c in
    let low = asked in
    let a : AtBit _ axis_codes _ _ = at-bit low.loop-rest.invariant.bits (omega arith) low.lowest_bit.ensures in
    let out = sym asked.point_at_ok.ensures ∙ c.if-not-point_at_ok.true in
    sym (all-fails axis_codes (point_at_ok _ _) low.lowest_bit.result a.below out)

pub loop-rest-smaller : goal.loop-rest-smaller
loop-rest-smaller c =
    let low = c in
    omega (arith, (at-bit low.loop-rest.invariant.bits (omega arith) low.lowest_bit.ensures).fewer)

pub loop-rest-preserved : goal.loop-rest-preserved
loop-rest-preserved c =
    let one = c in
    let low = one in
    let fine = sym one.point_at_ok.ensures ∙ one.if-not-point_at_ok.false in
    walking_more low.loop-rest.invariant (omega arith) low.lowest_bit.ensures c.other_bits-rest.ensures fine

pub returns : goal.returns
returns c = sym (all_intro axis_codes (point_at_ok _ _) (walked c.loop-rest.invariant (omega arith)))
