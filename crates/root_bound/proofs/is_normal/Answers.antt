-- `root_bound::is_normal`: the answers to its goals. Assumes nothing.
use borrow.Author.Tests.{le-leb, lt-leb}
use Rattle.root_bound.proofs.is_normal.Goals as goal

pub returns-then-b-ge4503599627370496 : goal.returns-then-b-ge4503599627370496
returns-then-b-ge4503599627370496 c = simp (le-leb _ _ c.if-b-ge4503599627370496.true)

pub returns-else-b-ge4503599627370496 : goal.returns-else-b-ge4503599627370496
returns-else-b-ge4503599627370496 c = simp (lt-leb _ _ c.if-b-ge4503599627370496.false)
