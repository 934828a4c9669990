-- `spline_gather::points_of`: the answers to its goals. Assumes nothing.
use mathlib.Core.Path.{◌∙◌}
use native.Mathlib.Omega.{arith}
use borrow.Author.Rules.{rules}
use lib.ListN.{length-set}
use Rattle.spline_points.specs.Curve.{points_are}
use Rattle.spline_gather.proofs.points_of.Goals as goal

pub add_points-requires : goal.add_points-requires
add_points-requires c =
    let codes = c.requires.row_words_in_bounds.1.1 in
    let same = c.start_point.ensures.same in
    record {
      row_words_in_bounds = (search rules, (search rules, codes));
      chans_len_bound = (
        search rules,
        (
          omega (arith, same),
          simp length-set
              (omega arith),
        ),
      );
    }

pub shape_of-pts : goal.shape_of-pts
shape_of-pts c =
    let d = c in
    d.add_points.ensures.points_put.same ∙ d.start_point.ensures.same

pub shape_of-ws : goal.shape_of-ws
shape_of-ws c = c.add_points.ensures.weights_put.same ∙ simp length-set

pub returns : goal.returns
returns c =
    let d = c in
    let s = d in
    let put = d.add_points.ensures in
    let f = s in
    points_are _ _ _ _ _ _ _ _ f.args.ws.now _ _ (omega (arith, f.requires.chans_len_bound.1.1)) s.start_point.ensures put.points_put put.weights_put
