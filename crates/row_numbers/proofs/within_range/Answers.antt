-- `row_numbers::within_range`: the answers to its goals. Assumes nothing.
use mathlib.Core.Path.{refl}
use Rattle.row_numbers.specs.RowNumbers.{within}
use Rattle.row_numbers.proofs.within_range.Goals as goal

pub returns : goal.returns
unfolding within
returns c = refl
