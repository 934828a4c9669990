-- `push_after::push_store`: the answers to its goals. Assumes nothing.
use Rattle.std.proofs.Common.{sym, ◌∙◌, arith}
use Rattle.push_after.proofs.push_store.Goals as goal

pub overflow_mul-b : goal.overflow_mul-b
overflow_mul-b c = omega (arith, c.requires.few (sym c.is_spline.ensures ∙ c.if-is_spline.true))

pub put_row-requires : goal.put_row-requires
put_row-requires c = (c.requires.wide, c.requires.room (sym c.is_spline.ensures ∙ c.if-is_spline.true))
