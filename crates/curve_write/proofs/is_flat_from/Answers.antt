-- `curve_write::is_flat_from`: the answers to its goals. Assumes nothing.
use borrow.Author.Tests.{le-ltb}
use Rattle.curve_write.proofs.is_flat_from.Goals as goal

pub returns-then-c-reach : goal.returns-then-c-reach
returns-then-c-reach c = rw (le-ltb c.args.c c.args.reach c.if-c-reach.true) c.is_flat.ensures
