-- `csv_line::text_end`: the answers to its goals. Assumes nothing.
use Rattle.std.proofs.Common.{◌∙◌}
use Rattle.csv_line.proofs.Lines.{no_end, an_end}
use Rattle.csv_line.proofs.text_end.Goals as goal

pub returns-in_err-text : goal.returns-in_err-text
returns-in_err-text c = c.from_residual.ensures ∙ no_end _ c.in_err-text.ensures.cases

pub returns : goal.returns
returns c = an_end _ _ c.in_ok-text.ensures.cases.0 c.in_ok-text.ensures.cases.2
