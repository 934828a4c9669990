-- `night_table::put_line`: the answers to its goals. Assumes nothing.
use native.Mathlib.Omega.{arith}
use mathlib.Core.Path.{◌∙◌}
use Rattle.csv_figures.specs.OutLaws.{wrote-length}
use Rattle.night_table.proofs.Writing.{line-put}
use Rattle.night_table.proofs.put_line.Goals as goal

pub put_rest-requires : goal.put_rest-requires
put_rest-requires c =
    let b3 = c in
    (omega arith, omega (arith, b3.put_front-a.ensures.near, wrote-length b3.put_front-a.ensures.text))

pub shape_of-out : goal.shape_of-out
shape_of-out c =
    let b2 = c in
    let b6 = b2 in
    wrote-length b2.put_rest.ensures.text ∙ wrote-length b6.put_front-a.ensures.text

pub returns : goal.returns
returns c = line-put c.put_front-a.ensures c.put_rest.ensures
