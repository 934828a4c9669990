-- `csv_run::text_line`: the answers to its goals. Assumes nothing.
use mathlib.Core.Path.{◌≡◌, sym, ◌∙◌}
use native.Mathlib.Omega.{arith}
use Rattle.csv_spec.specs.LineLaws.{text-header, text-row, text_bad}
use Rattle.csv_run.specs.StepLaws.{step_as, bad_step, spoken-step}
use Rattle.csv_run.proofs.text_line.Goals as goal

pub returns-then-run-eq1 : goal.returns-then-run-eq1
returns-then-run-eq1 c = step_as (text-header _ _ (omega arith)) (spoken-step c.headed.ensures)

pub returns-then-read_row : goal.returns-then-read_row
returns-then-read_row c =
    let first : c.args.run.physical ≡ 1 → ⊥ = λ (z : c.args.run.physical ≡ 1). omega arith in
    let row = text-row _ _ _ _ first (sym c.read_row.ensures.0 ∙ c.if-read_row.true) c.read_row.ensures.1 in
    step_as row c.push_row.ensures

pub returns : goal.returns
returns c =
    let first : c.args.run.physical ≡ 1 → ⊥ = λ (z : c.args.run.physical ≡ 1). omega arith in
    step_as (text_bad _ _ first (sym c.read_row.ensures.0 ∙ c.if-read_row.false)) (bad_step c.refuse.ensures)
