-- `spline_gather::start_point`: the answers to its goals. Assumes nothing.
use mathlib.Core.Path.{ap}
use mathlib.Core.List.{map}
use native.Mathlib.Omega.{arith}
use lib.Seq.{take_all}
use Rattle.spline_channels.specs.Append.{appended_none, appended_to, appended_as}
use Rattle.spline_points.specs.Curve.{start-step}
use borrow.Author.Rules.{rules}
use Rattle.spline_gather.proofs.start_point.Goals as goal

pub loop-c-init : goal.loop-c-init
loop-c-init c = appended_none

pub start_value-requires : goal.start_value-requires
start_value-requires c =
    let codes = c.requires.axis_codes_in_bounds.1.1 in
    (search rules, (search rules, codes.axis _ c.loop-c-test.true))

pub bounds-pts-c : goal.bounds-pts-c
bounds-pts-c c = omega (arith, c.loop-c.invariant.same)

pub loop-c-preserved : goal.loop-c-preserved
loop-c-preserved c =
    start-step _ _ _ c.loop-c-test.true (omega arith) c.start_value.ensures c.loop-c.invariant

pub shape_of-pts : goal.shape_of-pts
shape_of-pts c = c.loop-c.invariant.same

pub returns : goal.returns
returns c = appended_to (appended_as (ap (map _) (take_all _ _ c.loop-c-test.false)) c.loop-c.invariant) (omega arith)
