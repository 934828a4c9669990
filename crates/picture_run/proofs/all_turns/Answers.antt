-- `picture_run::all_turns`: the answers to its goals. Assumes nothing.
use Rattle.std.proofs.Common.{sym, ◌∙◌}
use Rattle.csv_status.specs.StatusLaws.{going}
use Rattle.picture_run.proofs.all_turns.Goals as goal

pub loop-preserved : goal.loop-preserved
loop-preserved g c = (c.step-page.ensures, sym c.over_of.ensures ∙ going (sym c.is_over.ensures ∙ c.if-is_over.false))
