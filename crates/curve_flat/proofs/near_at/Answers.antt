-- `curve_flat::near_at`: the answers to its goals. Assumes nothing.
use mathlib.Core.Path.{sym, ap, ◌∙◌}
use native.Mathlib.Omega.{arith}
use Rattle.curve_metric.specs.Walk.{near}
use Rattle.curve_walk.specs.Points.{point-is, point-length}
use Rattle.curve_flat.proofs.near_at.Goals as goal

pub slice_bounds-is_near-end : goal.slice_bounds-is_near-end
slice_bounds-is_near-end c = sym (point-length _ _ c.point_at-p.ensures)

pub is_near-requires : goal.is_near-requires
is_near-requires c =
    let pre = c.requires in
    record {
      below = rw pre.first pre.metric;
      a_in_bounds = (
        omega (arith, pre.first, pre.end),
        omega (
          arith,
          pre.first,
          point-length _ _
              c.point_at-p.ensures,
        ),
      );
    }

pub returns : goal.returns
returns c =
    let a = c.args in
    c.is_near.ensures ∙ ap (near a.ms.now a.s.tol a.p0.now a.p1.now) (point-is _ _ c.point_at-p.ensures)
