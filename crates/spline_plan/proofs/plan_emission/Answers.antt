-- `spline_plan::plan_emission`: the answers to its goals. Assumes nothing.
use mathlib.Core.Path.{refl, sym}
use native.Mathlib.Omega.{arith}
use lib.Seq.{length-take-le}
use Rattle.spline_curve.specs.Gathers.{draws_few, draws_within, curved-kept}
use Rattle.spline_curve.specs.Curves.{few_runs}
use borrow.Author.Rules.{rules}
use Rattle.spline_plan.specs.Planning.{planned_of}
use Rattle.spline_plan.proofs.plan_emission.Goals as goal

pub gather_curve-curve-requires : goal.gather_curve-curve-requires
gather_curve-curve-requires c =
    let start = c in
    record {
      holds = start.requires.holds;
      axis_codes_in_bounds = (search rules, search rules);
      held_in_bounds = (
        start.requires.rooms.points,
        start.requires.rooms.weights,
      );
    }

pub slice_bounds-ms-end : goal.slice_bounds-ms-end
slice_bounds-ms-end c =
    let at-gather-curve = c in
    omega (arith, at-gather-curve.gather_curve-curve.ensures.places, at-gather-curve.gather_curve-curve.auto.ms)

pub slice_bounds-tabulate-end : goal.slice_bounds-tabulate-end
slice_bounds-tabulate-end c =
    let at-gather-curve = c in
    sym (length-take-le _ _ at-gather-curve.gather_curve-curve.ensures.places)

pub tabulate-form-requires : goal.tabulate-form-requires
tabulate-form-requires c =
    let at-drawing-of = c in
    let at-gather-curve = at-drawing-of in
    let start = at-gather-curve in
    let gathered = at-gather-curve.gather_curve-curve.ensures in
    let few = draws_few _ _ _ _ start.args.job _ _ _ _ _ _ at-drawing-of.drawing_of-drawing.ensures gathered in
    let room = start.requires.rooms in
    let a = start.args in
    let asked = curved-kept _ _ _ _ a.job _ _ _ _ _ _ at-drawing-of.drawing_of-drawing.ensures gathered a.pts.now a.ws.now in
    let curved = asked start.requires.holds.many at-gather-curve.gather_curve-curve.auto.pts room.points at-gather-curve.gather_curve-curve.auto.ws
    room.weights in
    let controls = draws_within _ _ _ _ a.job _ _ _ _ _ _ at-drawing-of.drawing_of-drawing.ensures gathered _ room.controls in
    record { curved = curved; n_in_bounds = (omega (arith, few, room.knots), controls); n_in_bounds_2 = omega (arith, few, room.blocks) }

pub total-place-requires : goal.total-place-requires
total-place-requires c =
    let at-tabulate = c in
    let at-drawing-of = at-tabulate in
    let at-gather-curve = at-drawing-of in
    let start = at-gather-curve in
    let gathered = at-gather-curve.gather_curve-curve.ensures in
    let room = start.requires.rooms in
    let a = start.args in
    let asked = curved-kept _ _ _ _ a.job _ _ _ _ _ _ at-drawing-of.drawing_of-drawing.ensures gathered a.pts.now a.ws.now in
    let curved = asked start.requires.holds.many at-gather-curve.gather_curve-curve.auto.pts room.points at-gather-curve.gather_curve-curve.auto.ws
    room.weights in
    let tabulate = at-tabulate.tabulate-form in
    let few = few_runs _ _ _ _ _ _ curved.few room.few tabulate.ensures.counts_after in
    record { row_words_in_bounds = (start.requires.holds.lent, (start.requires.holds.many, omega (arith, room.blocks, tabulate.auto.counts))); few = few }

pub returns : goal.returns
returns c =
    let at-tabulate = c in
    let at-drawing-of = at-tabulate in
    let at-gather-curve = at-drawing-of in
    let start = at-gather-curve in
    let gathered = at-gather-curve.gather_curve-curve.ensures in
    let room = start.requires.rooms in
    let a = start.args in
    let asked = curved-kept _ _ _ _ a.job _ _ _ _ _ _ at-drawing-of.drawing_of-drawing.ensures gathered a.pts.now a.ws.now in
    let curved = asked start.requires.holds.many at-gather-curve.gather_curve-curve.auto.pts room.points at-gather-curve.gather_curve-curve.auto.ws
    room.weights in
    let tabulate = at-tabulate.tabulate-form in
    let few = few_runs _ _ _ _ _ _ curved.few room.few tabulate.ensures.counts_after in (
      refl,
      planned_of a.job _ _ _ start.requires.holds _ _ _ _ _ gathered _ _ _ _ _ _ _ _ at-drawing-of.drawing_of-drawing.ensures
          (at-gather-curve.gather_curve-curve.auto.chans, at-gather-curve.gather_curve-curve.auto.ms)
          tabulate.ensures.drawn tabulate.ensures.recalled
          (omega (arith, room.blocks, tabulate.auto.counts)) few tabulate.ensures.counts_after c.total-place.ensures,
    )
