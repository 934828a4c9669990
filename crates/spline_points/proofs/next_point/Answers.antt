-- `spline_points::next_point`: the answers to its goals. Assumes nothing.
use mathlib.Core.Path.{◌≡◌, refl}
use native.Mathlib.Omega.{arith}
use lib.ListN.{length}
use Rattle.floats.specs.Lists.{upto}
use Rattle.spline_channels.specs.Append.{appended_none, appended_as, appended_to}
use Rattle.spline_points.specs.Curve.{next-is, next-step}
use Rattle.spline_points.proofs.next_point.Goals as goal

pub loop-c-init : goal.loop-c-init
unfolding upto
loop-c-init c = appended_to appended_none (omega arith)

pub bounds-pts-before : goal.bounds-pts-before
bounds-pts-before c = omega (arith, c.loop-c.invariant.same)

pub next_value-requires : goal.next_value-requires
next_value-requires c =
    let pre = c.requires in
    (pre.row_len.0, omega (arith, pre.row_len.1.axis _ c.loop-c-test.true))

pub bounds-pts-at : goal.bounds-pts-at
bounds-pts-at c = omega (arith, c.loop-c.invariant.same)

pub loop-c-preserved : goal.loop-c-preserved
loop-c-preserved c =
    let d = c in
    let pre = d.requires in
    let inv = d.loop-c.invariant in
    next-step _ _ _ _ pre.chans_len_bound.0 pre.chans_len_bound.1 _ d.loop-c-test.true refl c.next_value.ensures inv

pub shape_of-pts : goal.shape_of-pts
shape_of-pts c = c.loop-c.invariant.same

pub returns : goal.returns
returns c =
    let e : c.loop-c.c ≡ length c.args.chans.now = omega arith in
    appended_to (appended_as (next-is _ _ _ _ e) c.loop-c.invariant) (omega arith)
