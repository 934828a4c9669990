-- `night_ends::digits_from`: the answers to its goals. Assumes nothing.
use mathlib.Core.Path.{sym, ◌∙◌}
use native.Mathlib.Omega.{arith}
use Rattle.night_ends.proofs.Ending.{digits-end, digits-on, digits-none}
use Rattle.night_ends.proofs.digits_from.Goals as goal

pub returns-then-not-is_digit : goal.returns-then-not-is_digit
returns-then-not-is_digit c =
    let e = digits-end c.args.text.now c.loop-k.k c.loop-k-test.true (sym c.is_digit.ensures ∙ c.if-not-is_digit.true) in omega (arith, c.loop-k.invariant, e)

pub loop-k-preserved : goal.loop-k-preserved
loop-k-preserved c = c.loop-k.invariant ∙ digits-on _ _ c.loop-k-test.true (sym c.is_digit.ensures ∙ c.if-not-is_digit.false)

pub returns : goal.returns
returns c = (sym (c.loop-k.invariant ∙ digits-none _ _ (omega arith)), omega arith)
