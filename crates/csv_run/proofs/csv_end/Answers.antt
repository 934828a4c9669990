-- `csv_run::csv_end`: the answers to its goals. Assumes nothing.
use mathlib.Core.Path.{sym, ◌∙◌}
use Rattle.csv_run.specs.StepLaws.{step_as, bad_step, end-good, end_bad}
use Rattle.csv_run.proofs.csv_end.Goals as goal

pub returns-then-may_end : goal.returns-then-may_end
returns-then-may_end c =
    step_as (end-good _ _ (sym c.may_end.ensures ∙ c.if-may_end.true)) c.close_run.ensures

pub returns : goal.returns
returns c =
    step_as (end_bad _ _ (sym c.may_end.ensures ∙ c.if-may_end.false)) (bad_step c.refuse.ensures)
