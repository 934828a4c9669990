-- `arc_group::plan_arc`: the answers to its goals. Assumes nothing.
use mathlib.Core.Path.{sym, ◌∙◌}
use Rattle.arc_rows.specs.Plan.{PlannedFrom}
use Rattle.arc_rows.specs.PlanLaws.{answer-silent, answer-no-u, answer-no-v, answer-found, pass_planned, planned_as}
use Rattle.arc_group.proofs.plan_arc.Goals as goal

pub returns-then-is_silent : goal.returns-then-is_silent
returns-then-is_silent c =
    let is-silent = c.is_silent in
    let plane-v = c.plane_v-v in
    let plane-u = c.plane_u-u in
    let silent = sym is-silent.ensures ∙ c.if-is_silent.true in
    pass_planned _ _ _ _ 0 (answer-silent _ _ _ _ _ _ _ _ _ plane-u.ensures.0 plane-v.ensures.0 silent) c.passing.ensures

pub returns-then-not-has_bit : goal.returns-then-not-has_bit
returns-then-not-has_bit c =
    let has-bit = c.has_bit in
    let if1 = c.if-is_silent in
    let is-silent = c.is_silent in
    let plane-v = c.plane_v-v in
    let plane-u = c.plane_u-u in
    let loud = sym is-silent.ensures ∙ if1.false in
    let no_u = sym has-bit.ensures ∙ c.if-not-has_bit.true in
    pass_planned _ _ _ _ 1 (answer-no-u _ _ _ _ _ _ _ _ _ plane-u.ensures.0 plane-v.ensures.0 loud no_u) c.passing-then-not-has_bit.ensures

pub returns-then-not-has_bit-2 : goal.returns-then-not-has_bit-2
returns-then-not-has_bit-2 c =
    let has-bit2 = c.has_bit-2 in
    let has-bit = c.has_bit in
    let if1 = c.if-is_silent in
    let is-silent = c.is_silent in
    let plane-v = c.plane_v-v in
    let plane-u = c.plane_u-u in
    let loud = sym is-silent.ensures ∙ if1.false in
    let on_u = sym has-bit.ensures ∙ c.if-not-has_bit.false in
    let no_v = sym has-bit2.ensures ∙ c.if-not-has_bit-2.true in
    pass_planned _ _ _ _ 1 (answer-no-v _ _ _ _ _ _ _ _ _ plane-u.ensures.0 plane-v.ensures.0 loud on_u no_v) c.passing-then-not-has_bit-2.ensures

pub returns : goal.returns
unfolding PlannedFrom
returns c =
    let seek-centre = c.seek_centre in
    let ends = c.ends-e in
    let has-bit2 = c.has_bit-2 in
    let has-bit = c.has_bit in
    let if1 = c.if-is_silent in
    let is-silent = c.is_silent in
    let plane-v = c.plane_v-v in
    let plane-u = c.plane_u-u in
    let loud = sym is-silent.ensures ∙ if1.false in
    let on_u = sym has-bit.ensures ∙ c.if-not-has_bit.false in
    let on_v = sym has-bit2.ensures ∙ c.if-not-has_bit-2.false in
    planned_as _ _ _ _ (answer-found _ _ _ _ _ _ _ _ _ plane-u.ensures.0 plane-v.ensures.0 loud on_u on_v ends.ensures seek-centre.ensures)
    (c.from_centre.ensures _)
