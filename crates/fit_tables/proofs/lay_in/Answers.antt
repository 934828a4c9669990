-- `fit_tables::lay_in`: the answers to its goals. Assumes nothing.
use mathlib.Core.Path.{ap}
use mathlib.Core.List.{List, ◌++◌}
use lib.Ieee.{Float}
use lib.ListN.{drop}
use native.Mathlib.Omega.{arith}
use Rattle.fit_tables.specs.Cells.{cells_in}
use Rattle.fit_tables.proofs.Laying.{laid}
use Rattle.fit_tables.proofs.lay_in.Goals as goal

pub returns : goal.returns
returns c =
    let a = c.args in
    let pre = c.requires in
    let cells = cells_in a.n a.ch pre.le_n.1.1 in
    let sums = c.chord_parameters in
    let fit = c.prepare_fit-m in
    laid a.cubic a.n a.ch a.ms.now a.pts.now a.ks.now a.cs.now a.slopes.now _
    {ts = sums.new.out} {fts = fit.new.fts} {fps = fit.new.fps} {bends = fit.new.slopes}
    pre.n_in_bounds.0 (omega (arith, cells, pre.n_in_bounds.1)) pre.n_in_bounds_2.1 (omega (arith, sums.auto.out, pre.n_in_bounds_2.0))
    sums.ensures (ap (λ (z : List Float). z ++ drop a.n a.ks.now) c.copy.ensures)
    fit.auto.fts fit.auto.fps fit.auto.slopes c.copy-2.ensures fit.ensures
