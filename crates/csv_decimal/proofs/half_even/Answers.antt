-- `csv_decimal::half_even`: the answers to its goals. Assumes nothing.
use mathlib.Core.Path.{sym, ◌∙◌}
use Rattle.csv_decimal.specs.Near.{even-low, tied, over, shifted}
use Rattle.csv_decimal.proofs.half_even.Goals as goal

pub returns-then-h-eq0 : goal.returns-then-h-eq0
returns-then-h-eq0 c = even-low _ _ c.if-h-eq0.true

pub returns-then-h-j : goal.returns-then-h-j
returns-then-h-j c = tied _ _ c.if-h-eq0.false (sym (shifted _ _ c.ranges.d.fits) ∙ c.if-h-j.true)

pub returns : goal.returns
returns c = over _ _ c.if-h-eq0.false (λ e. c.if-h-j.false (shifted _ _ c.ranges.d.fits ∙ e))
