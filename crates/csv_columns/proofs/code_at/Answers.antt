-- `csv_columns::code_at`: the answers to its goals. Assumes nothing.
use native.Mathlib.Omega.{arith}
use Rattle.csv_line.specs.CodeLaws.{code_below}
use Rattle.csv_columns.proofs.Columns.{code-shifted}
use Rattle.csv_columns.proofs.code_at.Goals as goal

pub returns : goal.returns
returns c = let e = code-shifted c.args.i c.requires in (e, omega (arith, e, code_below c.args.i c.requires))
