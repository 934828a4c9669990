-- `tally::tally_start`: the answers to its goals. Assumes nothing.
use mathlib.Core.Path.{refl}
use borrow.Author.Tests.{eq-eqb, ne_eqb}
use Rattle.floats.specs.Truth.{cond-t, cond-f}
use Rattle.tally.specs.Tally.{start_spec}
use Rattle.call_reply.specs.ReplyLaws.{state-is}
use Rattle.tally.proofs.tally_start.Goals as goal

pub returns-then-tally-ne-TALLY_WORDS : goal.returns-then-tally-ne-TALLY_WORDS
unfolding start_spec
returns-then-tally-ne-TALLY_WORDS c = state-is (cond-f _ _ (ne_eqb _ _ c.if-tally-ne-TALLY_WORDS.true)) c.into.ensures refl

pub returns : goal.returns
unfolding start_spec
returns c =
    state-is (cond-t _ _ (eq-eqb _ _ c.if-tally-ne-TALLY_WORDS.false)) c.plain_reply.ensures c.clear.ensures
