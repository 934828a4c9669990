-- `csv_figures::put_millionths`: the answers to its goals. Assumes nothing.
use native.Mathlib.Omega.{arith}
use Rattle.csv_figures.specs.OutLaws.{wrote-length}
use Rattle.csv_figures.specs.Writers.{seven-left, in_three}
use Rattle.csv_figures.proofs.put_millionths.Goals as goal

pub put_byte-b-requires : goal.put_byte-b-requires
put_byte-b-requires c =
    omega (arith, seven-left _ c.put_whole-a.ensures c.requires.0 (omega arith))

pub put_figures-requires : goal.put_figures-requires
put_figures-requires c =
    let h = seven-left _ c.put_whole-a.ensures c.requires.0 (omega arith) in let l = wrote-length c.put_byte-b.ensures in let n =
    c.put_byte-b.ensures.next in omega arith

pub returns : goal.returns
returns c =
    in_three _ c.put_whole-a.ensures c.put_byte-b.ensures c.put_figures.ensures
