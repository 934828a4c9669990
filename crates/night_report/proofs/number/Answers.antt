-- `night_report::number`: the answers to its goals. Assumes nothing.
use native.Mathlib.Omega.{arith}
use Rattle.csv_decimal.specs.Widths.{width-ten}
use Rattle.csv_figures.specs.Writers.{whole_length}
use Rattle.night_report.proofs.number.Goals as goal

pub returns : goal.returns
returns c =
    let b2 = c in
    let b5 = b2 in
    omega (arith, b2.put_whole.ensures.next, whole_length b5.args.v, width-ten b5.args.v)
