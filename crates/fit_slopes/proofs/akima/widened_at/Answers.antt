-- `fit_slopes::akima::widened_at`: the answers to its goals. Assumes nothing.
use native.Mathlib.Omega.{arith}
use Rattle.fit_slopes.specs.AkimaLaws.{wide-first, wide-second, wide_step, wide-behind, wide-last}
use Rattle.fit_slopes.proofs.akima.widened_at.Goals as goal

pub returns-then-i-eq0 : goal.returns-then-i-eq0
returns-then-i-eq0 c = wide-first _ _ _ c.if-i-eq0.true c.slope_before.ensures c.secant_at.ensures

pub returns-then-i-eq1 : goal.returns-then-i-eq1
returns-then-i-eq1 c = wide-second _ _ _ c.if-i-eq1.true c.slope_before-then-i-eq1.ensures

pub returns-then-i-n : goal.returns-then-i-n
returns-then-i-n c = wide_step _ _ _ _ (omega arith) (omega arith) c.secant_at-then-i-n.ensures

pub returns-then-i-n-2 : goal.returns-then-i-n-2
returns-then-i-n-2 c = wide-behind _ _ _ _ (omega arith) (omega arith) c.slope_behind.ensures

pub returns : goal.returns
returns c = wide-last _ _ _ _ (omega arith) (omega arith) c.slope_behind-2.ensures c.secant_at-2.ensures
