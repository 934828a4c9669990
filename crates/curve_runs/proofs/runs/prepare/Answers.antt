-- `curve_runs::runs::prepare`: the answers to its goals. Assumes nothing.
use mathlib.Core.Path.{sym, ◌∙◌}
use native.Mathlib.Omega.{arith}
use Rattle.curve_runs.proofs.Running.{fitted_as}
use Rattle.curve_runs.proofs.runs.prepare.Goals as goal

pub returns-then-is_basis : goal.returns-then-is_basis
returns-then-is_basis c =
    let at-prepare-basis = c in
    let at-if1 = at-prepare-basis in
    let at-is-basis = at-if1 in
    let start = at-is-basis in
    record {
      two = start.requires.le_n.0;
      few = start.requires.le_n.1.0;
      narrow = start.requires.le_n.1.1;
      metric = start.requires.below.0;
      points = start.requires.below.1.0;
      knots = omega (arith, start.requires.n_in_bounds.0, at-prepare-basis.prepare_basis-degree.auto.ks);
      controls = omega (arith, start.requires.n_in_bounds.1.fit, at-prepare-basis.prepare_basis-degree.auto.cw);
      laid = record { kind = sym at-is-basis.is_basis.ensures ∙ at-if1.if-is_basis.true; tables = at-prepare-basis.prepare_basis-degree.ensures };
    }

pub returns : goal.returns
returns c =
    let at-lay-fit = c in
    let at-is-cubic = at-lay-fit in
    let at-if1 = at-is-cubic in
    let at-is-basis = at-if1 in
    let start = at-is-basis in
    let fit = at-lay-fit.lay_fit-points.ensures in
    record {
      two = start.requires.le_n.0;
      few = start.requires.le_n.1.0;
      narrow = start.requires.le_n.1.1;
      metric = start.requires.below.0;
      points = start.requires.below.1.0;
      knots = omega (arith, start.requires.n_in_bounds.0, at-lay-fit.lay_fit-points.auto.ks);
      controls = omega (arith, start.requires.n_in_bounds.1.fit, at-lay-fit.lay_fit-points.auto.cs);
      laid = record {
        kind = sym at-is-basis.is_basis.ensures ∙ at-if1.if-is_basis.false;
        tables = fitted_as at-is-cubic.is_cubic-cubic.ensures fit;
      };
    }
