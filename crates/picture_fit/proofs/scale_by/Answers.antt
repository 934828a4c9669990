-- `picture_fit::scale_by`: the answers to its goals. Assumes nothing.
use native.Mathlib.Omega.{arith}
use borrow.Author.Tests.{lt-ltb, le-ltb}
use Rattle.picture_fit.specs.Fit.{scale_by}
use Rattle.picture_fit.specs.FitLaws.{share-small, fine-small}
use Rattle.picture_fit.proofs.scale_by.Goals as goal

pub returns-then-v-lt-MILLIMETRE : goal.returns-then-v-lt-MILLIMETRE
unfolding scale_by
returns-then-v-lt-MILLIMETRE c =
    (rw (← c.at_least-v.ensures.0, lt-ltb _ _ c.if-v-lt-MILLIMETRE.true), share-small _ _ (omega (arith, c.at_least-v.ensures.1)) (omega arith))

pub returns : goal.returns
unfolding scale_by
returns c = (rw (← c.at_least-v.ensures.0, le-ltb _ _ c.if-v-lt-MILLIMETRE.false), fine-small _ _ c.if-v-lt-MILLIMETRE.false (omega arith))
