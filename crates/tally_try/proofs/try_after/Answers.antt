-- `tally_try::try_after`: the answers to its goals. Assumes nothing.
use mathlib.Core.Path.{sym, ◌∙◌}
use Rattle.tally_call.specs.CallLaws.{try-closed, try_open}
use Rattle.tally_try.proofs.try_after.Goals as goal

pub returns-then-is_closing : goal.returns-then-is_closing
returns-then-is_closing c =
    try-closed c.args.w c.args.c _ _ c.is_bad-bad.ensures _ c.first_passed.ensures c.try_number.ensures
    (sym c.is_closing.ensures ∙ c.if-is_closing.true)

pub returns : goal.returns
returns c =
    try_open c.args.w c.args.c _ _ c.is_bad-bad.ensures _ _ _ c.has_bit.ensures c.has_bit-2.ensures c.has_bit-3.ensures
    c.try_number-2.ensures (sym c.is_closing.ensures ∙ c.if-is_closing.false)
