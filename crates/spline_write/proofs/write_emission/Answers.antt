-- `spline_write::write_emission`: the answers to its goals. Assumes nothing.
use mathlib.Core.Path.{sym, ◌∙◌}
use native.Mathlib.Omega.{arith}
use lib.Seq.{length-take-le}
use borrow.Author.Tests.{leb-true, leb-false}
use Rattle.spline_write.proofs.Writing.{not_written, samples-room, spreads_of, written_of}
use Rattle.spline_write.proofs.write_emission.Goals as goal

pub returns-then-not-has_room : goal.returns-then-not-has_room
returns-then-not-has_room c =
    let at-has-room = c in
    let back0 = at-has-room in
    let start = back0 in
    let full = leb-false _ _ (sym at-has-room.has_room.ensures ∙ c.if-not-has_room.true) in
    record { from = λ q. not_written q.planned start.args.rows.now full }

pub slice_bounds-write_curve-end : goal.slice_bounds-write_curve-end
slice_bounds-write_curve-end c =
    let back0 = c in
    let start = back0 in
    sym (length-take-le _ _ start.requires.planned.gathered.places)

pub write_curve-requires : goal.write_curve-requires
write_curve-requires c =
    let at-if1 = c in
    let at-has-room = at-if1 in
    let back0 = at-has-room in
    let start = back0 in
    let plan = start.requires.planned in
    let room = leb-true _ _ (sym at-has-room.has_room.ensures ∙ at-if1.if-not-has_room.false) in
    record { drawn = plan.drawn; recalled = plan.recalled; ws_in_bounds = samples-room plan start.args.rows.now room }

pub slice_bounds-chans-end : goal.slice_bounds-chans-end
slice_bounds-chans-end c =
    let back0 = c in
    let start = back0 in
    let plan = start.requires.planned in
    omega (arith, plan.gathered.narrow, plan.wide.0)

pub slice_bounds-spread_curve-end : goal.slice_bounds-spread_curve-end
slice_bounds-spread_curve-end c =
    let back0 = c in
    let start = back0 in
    let plan = start.requires.planned in
    sym (length-take-le _ _ (omega (arith, plan.gathered.narrow, plan.wide.0)))

pub overflow_sub-n : goal.overflow_sub-n
overflow_sub-n c =
    let back0 = c in
    let start = back0 in
    omega (arith, start.requires.planned.gathered.count)

pub spread_curve-requires : goal.spread_curve-requires
spread_curve-requires c =
    let at-is-basis = c in
    let at-write-curve = at-is-basis in
    let at-if1 = at-write-curve in
    let at-has-room = at-if1 in
    let back0 = at-has-room in
    let start = back0 in
    let plan = start.requires.planned in
    let room = leb-true _ _ (sym at-has-room.has_room.ensures ∙ at-if1.if-not-has_room.false) in
    let same = at-write-curve.write_curve.auto.out in
    record { spreads = spreads_of plan start.args.rows.now room _ at-is-basis.is_basis-basis.ensures _ same; row_words_in_bounds = plan.holds.lent }

pub returns : goal.returns
returns c =
    let at-spread-curve = c in
    let at-is-basis = at-spread-curve in
    let at-write-curve = at-is-basis in
    let at-if1 = at-write-curve in
    let at-has-room = at-if1 in
    let back0 = at-has-room in
    let start = back0 in
    let rows = start.args.rows.now in
    let room = leb-true _ _ (sym at-has-room.has_room.ensures ∙ at-if1.if-not-has_room.false) in
    let basis = at-is-basis.is_basis-basis.ensures in
    let first = at-write-curve.write_curve.ensures in
    let second = at-spread-curve.spread_curve.ensures in
    record { from = λ q. written_of q.planned rows room _ basis _ _ first second }
