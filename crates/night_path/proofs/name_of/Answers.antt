-- `night_path::name_of`: the answers to its goals. Assumes nothing.
use mathlib.Core.Path.{sym, ◌∙◌}
use native.Mathlib.Omega.{arith}
use Rattle.night_path.proofs.Naming.{ends-long, named, named-whole}
use Rattle.night_path.proofs.name_of.Goals as goal

pub overflow_sub-result : goal.overflow_sub-result
overflow_sub-result c = omega (arith, ends-long _ _ (sym c.ends_csv.ensures ∙ c.if-ends_csv.true))

pub returns-then-ends_csv : goal.returns-then-ends_csv
returns-then-ends_csv c = let long = ends-long _ _ (sym c.ends_csv.ensures ∙ c.if-ends_csv.true) in
    (named _ _ c.name_start-from.ensures.0 (sym c.ends_csv.ensures ∙ c.if-ends_csv.true), (omega (arith, long), omega arith))

pub returns : goal.returns
returns c =
    let b2 = c in (
      named-whole _ _ b2.name_start-from.ensures.0 (sym c.ends_csv.ensures ∙ c.if-ends_csv.false),
      (omega (arith, b2.name_start-from.ensures.1), omega arith),
    )
