-- `bspline_prepare::prepare_basis`: the answers to its goals. Assumes nothing.
use native.Mathlib.Omega.{arith}
use Rattle.bspline_prepare.proofs.Prepared.{degree_in, knots_are, knot-top}
use Rattle.bspline_prepare.proofs.prepare_basis.Goals as goal

pub overflow_sub-n : goal.overflow_sub-n
overflow_sub-n c = omega (arith, degree_in _ _ c.requires.le_n.0 c.degree_of-p.ensures)

pub overflow_add-n : goal.overflow_add-n
overflow_add-n c = omega (arith, degree_in _ _ c.requires.le_n.0 c.degree_of-p.ensures)

pub overflow_add-n-2 : goal.overflow_add-n-2
overflow_add-n-2 c = omega (arith, degree_in _ _ c.requires.le_n.0 c.degree_of-p.ensures)

pub fill_knots-requires : goal.fill_knots-requires
fill_knots-requires c =
    let pre = c.requires in
    (omega arith, omega (arith, degree_in _ _ pre.le_n.0 c.degree_of-p.ensures))

pub returns : goal.returns
returns c =
    let fill-controls = c.fill_controls in
    let fill-knots = c.fill_knots in
    let degree-of = c.degree_of-p in
    let pre = c.requires in
    let i = degree_in _ _ pre.le_n.0 degree-of.ensures in
    let k = fill-knots.auto.ks in
    let w = fill-controls.auto.cw in
    record {
      tables = record {
        some = i.0;
        under = i.1;
        few = pre.le_n.1.0;
        narrow = pre.le_n.1.1;
        knots = omega (arith, i, k, pre.n_in_bounds.0, pre.le_n.1.0);
        controls = omega (arith, w, pre.n_in_bounds.1);
        top = knot-top _ _ _ fill-knots.ensures;
      };
      power = degree-of.ensures;
      knot = knots_are _ _ _ fill-knots.ensures;
      control = fill-controls.ensures;
      points = pre.ch_in_bounds.0;
      weights = pre.ch_in_bounds.1;
    }
