-- `spline_put::put_emission`: the answers to its goals. Assumes nothing.
use native.Mathlib.Omega.{arith}
use Rattle.saved_state.specs.Walk.{part-codes}
use Rattle.spline_put.proofs.Handed.{state-long, state-axes, holds_at, put-at}
use Rattle.spline_put.proofs.put_emission.Goals as goal

pub bounds-state-1 : goal.bounds-state-1
bounds-state-1 c =
    let st = c.args.state.now in
    let store = c.args.store.now in
    let saved = c.requires.0 in
    omega (arith, state-long st store saved, state-axes st store saved)

pub overflow_add-e : goal.overflow_add-e
overflow_add-e c =
    let st = c.args.state.now in
    let store = c.args.store.now in
    let saved = c.requires.0 in
    omega (arith, state-long st store saved, state-axes st store saved)

pub bounds-state-23 : goal.bounds-state-23
bounds-state-23 c =
    let st = c.args.state.now in
    let store = c.args.store.now in
    let saved = c.requires.0 in
    omega (arith, state-long st store saved, state-axes st store saved)

pub bounds-state-60 : goal.bounds-state-60
bounds-state-60 c =
    let st = c.args.state.now in
    let store = c.args.store.now in
    let saved = c.requires.0 in
    omega (arith, state-long st store saved, state-axes st store saved)

pub bounds-state-0 : goal.bounds-state-0
bounds-state-0 c =
    let st = c.args.state.now in
    let store = c.args.store.now in
    let saved = c.requires.0 in
    omega (arith, state-long st store saved, state-axes st store saved)

pub bounds-state-43 : goal.bounds-state-43
bounds-state-43 c =
    let st = c.args.state.now in
    let store = c.args.store.now in
    let saved = c.requires.0 in
    omega (arith, state-long st store saved, state-axes st store saved)

pub bounds-state-61 : goal.bounds-state-61
bounds-state-61 c =
    let start = c in
    let st = start.args.state.now in
    let store = start.args.store.now in
    let saved = start.requires.0 in
    omega (arith, state-long st store saved, state-axes st store saved)

pub slice_bounds-emit_within-count : goal.slice_bounds-emit_within-count
slice_bounds-emit_within-count c =
    let start = c in
    let st = start.args.state.now in
    let store = start.args.store.now in
    let saved = start.requires.0 in
    omega (arith, state-long st store saved, state-axes st store saved)

pub slice_bounds-emit_within-start : goal.slice_bounds-emit_within-start
slice_bounds-emit_within-start c =
    let start = c in
    let st = start.args.state.now in
    let store = start.args.store.now in
    let saved = start.requires.0 in
    omega (arith, state-long st store saved, state-axes st store saved)

pub slice_bounds-emit_within-end : goal.slice_bounds-emit_within-end
slice_bounds-emit_within-end c =
    let start = c in
    let st = start.args.state.now in
    let store = start.args.store.now in
    let saved = start.requires.0 in
    omega (arith, state-long st store saved, state-axes st store saved)

pub slice_bounds-emit_within-count-2 : goal.slice_bounds-emit_within-count-2
slice_bounds-emit_within-count-2 c =
    let start = c in
    let st = start.args.state.now in
    let store = start.args.store.now in
    let saved = start.requires.0 in
    omega (arith, state-long st store saved, state-axes st store saved)

pub slice_bounds-emit_within-start-2 : goal.slice_bounds-emit_within-start-2
slice_bounds-emit_within-start-2 c =
    let start = c in
    let st = start.args.state.now in
    let store = start.args.store.now in
    let saved = start.requires.0 in
    omega (arith, state-long st store saved, state-axes st store saved)

pub slice_bounds-emit_within-end-2 : goal.slice_bounds-emit_within-end-2
slice_bounds-emit_within-end-2 c =
    let start = c in
    let st = start.args.state.now in
    let store = start.args.store.now in
    let saved = start.requires.0 in
    omega (arith, state-long st store saved, state-axes st store saved)

pub emit_within-requires : goal.emit_within-requires
emit_within-requires c =
    let at-of-bits = c in
    let start = at-of-bits in
    let st = start.args.state.now in
    let store = start.args.store.now in
    let saved = start.requires.0 in
    (holds_at st store saved _ _ (part-codes st) at-of-bits.of_bits.ensures, start.requires.1)

pub returns : goal.returns
returns c =
    let at-emit-within = c in
    let at-of-bits = at-emit-within in
    let start = at-of-bits in
    let st = start.args.state.now in
    let store = start.args.store.now in
    let saved = start.requires.0 in
    let emitted = at-emit-within.emit_within.ensures in
    put-at st store saved _ _ (part-codes st) at-of-bits.of_bits.ensures _ _ _ _ emitted.count emitted.written
