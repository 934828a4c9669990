-- `arc_rows::from_centre`: the answers to its goals. Assumes nothing.
use mathlib.Core.Path.{◌∙◌, ap}
use Rattle.layout.specs.Layout.{axis_codes}
use Rattle.arc_centre.specs.Types.{centre_is}
use Rattle.arc_rows.specs.Plan.{pass_plan, PlannedFrom}
use Rattle.arc_rows.specs.PlanLaws.{held-is, from-warned, from_arc, pass_planned, along-planned}
use Rattle.arc_rows.proofs.from_centre.Goals as goal

pub returns-in-Ok : goal.returns-in-Ok
unfolding PlannedFrom
returns-in-Ok c =
    let held-axes = c.held_axes in
    let plane-v = c.plane_v-v in
    let plane-u = c.plane_u-u in
    let arc-of = c.arc_of-c in
    let cell-number = c.cell_number-turn in
    let pre = c.requires in
    λ at.
    let answer = from_arc _ _ _ _ _ _ _ _ _ (ap centre_is c.in-Ok.is) cell-number.ensures arc-of.ensures in
    let held = held-axes.ensures ∙ held-is _ pre.1 _ _ at _ _ _ plane-u.ensures.0 plane-v.ensures.0 axis_codes in
    along-planned _ _ _ _ _ _ answer held c.along.ensures

pub returns-in-Err : goal.returns-in-Err
unfolding PlannedFrom
returns-in-Err c = λ at. pass_planned _ _ _ _ _ (from-warned _ _ _ _ _ _ _ _ (ap centre_is c.in-Err.is)) (c.passing.ensures ∙ ap pass_plan c.warning_of.ensures)
