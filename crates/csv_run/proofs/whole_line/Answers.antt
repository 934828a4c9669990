-- `csv_run::whole_line`: the answers to its goals. Assumes nothing.
use mathlib.Core.Path.{sym, ap, ◌∙◌}
use lib.Seq.{length-take-le}
use Rattle.csv_spec.specs.Line.{on_end}
use Rattle.csv_spec.specs.LineLaws.{end_in}
use Rattle.csv_run.specs.StepLaws.{step_as, bad_step}
use Rattle.csv_run.proofs.whole_line.Goals as goal

pub returns-in_default : goal.returns-in_default
returns-in_default c =
    let bad = sym c.text_end.ensures ∙ c.in_default.is in
    step_as (ap (on_end _ _) bad) (bad_step c.refuse.ensures)

pub slice_bounds-text_line-end : goal.slice_bounds-text_line-end
slice_bounds-text_line-end c =
    sym (length-take-le _ _ (end_in _ (sym c.text_end.ensures ∙ c.in-Some.is)))
