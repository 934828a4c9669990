-- `csv_decimal::size_of_bits`: the answers to its goals. Assumes nothing.
use mathlib.Core.Path.{sym, ap, ◌∙◌}
use native.Mathlib.Omega.{arith}
use Rattle.csv_decimal.specs.Decimal.{millionths}
use Rattle.csv_decimal.specs.Values.{low-fields, mid-fields, high-fields, by-fields}
use Rattle.csv_decimal.proofs.size_of_bits.Goals as goal

pub returns-then-e-le1000 : goal.returns-then-e-le1000
returns-then-e-le1000 c = sym (ap millionths (by-fields c.args.b) ∙ low-fields _ _ _ (omega arith) c.if-e-le1000.true)

pub returns-then-e-ge1053 : goal.returns-then-e-ge1053
returns-then-e-ge1053 c = sym (ap millionths (by-fields c.args.b) ∙ high-fields _ _ _ c.if-e-ge1053.true (omega arith))

pub returns-then-r-lt-TOO_LARGE : goal.returns-then-r-lt-TOO_LARGE
returns-then-r-lt-TOO_LARGE c =
    let e = ap millionths (by-fields c.args.b) ∙ mid-fields _ _ _ c.if-e-le1000.false c.if-e-ge1053.false in let f = c.scaled-r.ensures in omega arith

pub returns : goal.returns
returns c =
    let e = ap millionths (by-fields c.args.b) ∙ mid-fields _ _ _ c.if-e-le1000.false c.if-e-ge1053.false in let f = c.scaled-r.ensures in omega arith
