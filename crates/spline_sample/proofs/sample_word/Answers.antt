-- `spline_sample::sample_word`: the answers to its goals. Assumes nothing.
use mathlib.Core.Path.{sym, ◌∙◌}
use native.Mathlib.Omega.{arith}
use Rattle.spline_sample.proofs.Leaves.{word-yes, word-no}
use Rattle.spline_sample.proofs.sample_word.Goals as goal

pub overflow_add-result : goal.overflow_add-result
overflow_add-result c =
    let d = c in
    omega (arith, d.requires.0.inside d.args.k (sym c.has_bit.ensures ∙ c.if-has_bit.true))

pub offset_bounds-rows-from : goal.offset_bounds-rows-from
offset_bounds-rows-from c =
    let d = c in
    omega (arith, d.requires.0.inside d.args.k (sym c.has_bit.ensures ∙ c.if-has_bit.true))

pub bounds-rows-from : goal.bounds-rows-from
bounds-rows-from c =
    let d = c in
    d.requires.0.inside d.args.k (sym c.has_bit.ensures ∙ c.if-has_bit.true)

pub returns-then-has_bit : goal.returns-then-has_bit
returns-then-has_bit c = word-yes _ _ _ _ _ (sym c.has_bit.ensures ∙ c.if-has_bit.true)

pub returns-else-has_bit : goal.returns-else-has_bit
returns-else-has_bit c = word-no _ _ _ _ _ (sym c.has_bit.ensures ∙ c.if-has_bit.false)
