-- `csv_decimal::in_millionths`: the answers to its goals. Assumes nothing.
use mathlib.Core.Path.{sym, ap, ◌∙◌, subst}
use lib.Dec.{T}
use lib.Ieee.{binary64, of_bits}
use lib.Ieee.Bits.{of_bits-to_bits}
use Rattle.csv_decimal.specs.Decimal.{millionths}
use Rattle.csv_decimal.proofs.in_millionths.Goals as goal

pub returns : goal.returns
returns c =
    c.size_of_bits.ensures ∙ ap millionths (ap (of_bits binary64) c.bits.ensures ∙ of_bits-to_bits binary64 _ (subst T (sym c.well_formed.0.1) tt))
