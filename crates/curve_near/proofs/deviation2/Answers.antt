-- `curve_near::deviation2`: the answers to its goals. Assumes nothing.
use mathlib.Core.Path.{◌∙◌}
use native.Mathlib.Omega.{arith}
use Rattle.curve_metric.specs.Below.{Below}
use Rattle.curve_near.proofs.Sums.{two_is, three-is}
use Rattle.curve_near.proofs.deviation2.Goals as goal

pub gap_at-requires : goal.gap_at-requires
unfolding Below
gap_at-requires c =
    let pre = c.requires in
    record { i_in_bounds = pre.below 0 (omega (arith, c.if-ms-eq3.true)); a_in_bounds = pre.a_in_bounds }

pub gap_at-requires-then-ms-eq3 : goal.gap_at-requires-then-ms-eq3
unfolding Below
gap_at-requires-then-ms-eq3 c =
    let if1 = c.if-ms-eq3 in
    let pre = c.requires in
    record { i_in_bounds = pre.below 1 (omega (arith, if1.true)); a_in_bounds = pre.a_in_bounds }

pub gap_at-requires-then-ms-eq3-2 : goal.gap_at-requires-then-ms-eq3-2
unfolding Below
gap_at-requires-then-ms-eq3-2 c =
    let if1 = c.if-ms-eq3 in
    let pre = c.requires in
    record { i_in_bounds = pre.below 2 (omega (arith, if1.true)); a_in_bounds = pre.a_in_bounds }

pub returns-then-ms-eq3 : goal.returns-then-ms-eq3
returns-then-ms-eq3 c =
    let gap-at2 = c.gap_at-then-ms-eq3 in
    let gap_at = c.gap_at in
    let if1 = c.if-ms-eq3 in
    c.deviation_three.ensures ∙ three-is _ _ _ _ gap_at.ensures gap-at2.ensures c.gap_at-then-ms-eq3-2.ensures if1.true

pub gap_at-requires-then-ms-eq2 : goal.gap_at-requires-then-ms-eq2
unfolding Below
gap_at-requires-then-ms-eq2 c =
    let pre = c.requires in
    record { i_in_bounds = pre.below 0 (omega (arith, c.if-ms-eq2.true)); a_in_bounds = pre.a_in_bounds }

pub gap_at-requires-then-ms-eq2-2 : goal.gap_at-requires-then-ms-eq2-2
unfolding Below
gap_at-requires-then-ms-eq2-2 c =
    let if2 = c.if-ms-eq2 in
    let pre = c.requires in
    record { i_in_bounds = pre.below 1 (omega (arith, if2.true)); a_in_bounds = pre.a_in_bounds }

pub returns-then-ms-eq2 : goal.returns-then-ms-eq2
returns-then-ms-eq2 c =
    let gap-at4 = c.gap_at-then-ms-eq2 in
    let if2 = c.if-ms-eq2 in
    c.deviation_two.ensures ∙ two_is _ _ _ _ gap-at4.ensures c.gap_at-then-ms-eq2-2.ensures if2.true
