-- `row_axes::with_axis`: the answers to its goals. Assumes nothing.
use mathlib.Core.Path.{sym, ◌∙◌}
use borrow.Author.Tests.{lt-ltb, le-ltb}
use Rattle.floats.specs.Truth.{cond-t, cond-f}
use Rattle.row_axes.proofs.with_axis.Goals as goal

pub returns-then-code : goal.returns-then-code
returns-then-code c = sym (cond-f _ _ (le-ltb _ _ c.if-code.true))

pub returns : goal.returns
returns c = c.set_bit.ensures ∙ sym (cond-t _ _ (lt-ltb _ _ c.if-code.false))
