-- `csv_figures::put_whole`: the answers to its goals. Assumes nothing.
use native.Mathlib.Omega.{arith}
use Rattle.csv_decimal.specs.Widths.{width-ten}
use Rattle.csv_figures.specs.Writers.{as_whole}
use Rattle.csv_figures.proofs.put_whole.Goals as goal

pub put_figures-requires : goal.put_figures-requires
put_figures-requires c = let w = width-ten c.args.v in let e = c.digits.ensures in omega arith

pub returns : goal.returns
returns c = as_whole _ _ c.digits.ensures c.put_figures.ensures
