-- `row_numbers::is_above_1000`: the answers to its goals. Assumes nothing.
use borrow.Author.Tests.{lt-ltb, le-ltb}
use Rattle.row_numbers.specs.RowNumbers.{above1000}
use Rattle.row_numbers.proofs.is_above_1000.Goals as goal

pub returns-then-x-lt-SIGN_BIT : goal.returns-then-x-lt-SIGN_BIT
unfolding above1000
returns-then-x-lt-SIGN_BIT c = simp (lt-ltb _ _ c.if-x-lt-SIGN_BIT.true)

pub returns-else-x-lt-SIGN_BIT : goal.returns-else-x-lt-SIGN_BIT
unfolding above1000
returns-else-x-lt-SIGN_BIT c = simp (le-ltb _ _ c.if-x-lt-SIGN_BIT.false)
