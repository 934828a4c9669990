-- `curve_flat::point_at`: the answers to its goals. Assumes nothing.
use Rattle.curve_walk.specs.Forms.{basis-tables, fit-tables}
use Rattle.curve_flat.proofs.Flats.{basis-point, fit-point}
use Rattle.curve_flat.proofs.point_at.Goals as goal

pub eval-requires : goal.eval-requires
eval-requires c =
    let at-form = c in
    let start = at-form in
    basis-tables start.args.s at-form.in-Basis.is start.requires

pub fit_at-requires : goal.fit_at-requires
fit_at-requires c =
    let at-form2 = c in
    let start = at-form2 in
    (start.requires, fit-tables start.args.s at-form2.in-Fit.is start.requires)

pub returns-in-Basis : goal.returns-in-Basis
returns-in-Basis c = basis-point c.args.s _ _ _ _ c.in-Basis.is c.eval.ensures

pub returns-in-Fit : goal.returns-in-Fit
returns-in-Fit c = fit-point c.args.s _ _ _ _ c.in-Fit.is c.fit_at.ensures
