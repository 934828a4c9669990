-- `push_after::push_state`: the answers to its goals. Assumes nothing.
use Rattle.std.proofs.Common.{arith}
use Rattle.push_after.proofs.Steps.{step_1, block_2, held_2, long_3, block_4, axes_4, state-done}
use Rattle.push_after.proofs.push_state.Goals as goal

pub buffer_if-requires : goal.buffer_if-requires
buffer_if-requires c =
    let s = step_1 _ _ _ _ c.requires.0 c.requires.1.0 c.forget_if.ensures in
    (block_2 _ _ _ _ _ s c.set_modal.ensures, held_2 _ _ _ _ _ s c.set_modal.ensures c.requires.1.1)

pub warn_if-requires : goal.warn_if-requires
warn_if-requires c =
    let s = step_1 _ _ _ _ c.requires.0 c.requires.1.0 c.forget_if.ensures in
    (long_3 _ _ _ _ _ s c.set_modal.ensures _ c.is_spline.result c.buffer_if.ensures, omega arith)

pub track-requires : goal.track-requires
track-requires c =
    let s = step_1 _ _ _ _ c.requires.0 c.requires.1.0 c.forget_if.ensures in (
      block_4 _ _ _ _ _ s c.set_modal.ensures _ c.is_spline.result c.buffer_if.ensures _ c.warn_if.ensures,
      axes_4 _ _ _ _ _ s c.set_modal.ensures _ c.is_spline.result c.buffer_if.ensures _ c.warn_if.ensures,
    )

pub returns : goal.returns
returns c =
    let s = step_1 _ _ _ _ c.requires.0 c.requires.1.0 c.forget_if.ensures in
    state-done _ _ _ _ _ s c.set_modal.ensures _ c.is_spline.result c.buffer_if.ensures _ c.warn_if.ensures _ c.is_spline.ensures c.track.ensures
