-- `csv_cells::field_end`: the answers to its goals. Assumes nothing.
use Rattle.std.proofs.Common.{ap, ◌∙◌, ◌+◌, ℕ}
use Rattle.csv_cells.proofs.Reading.{reached}
use Rattle.csv_cells.proofs.field_end.Goals as goal

pub returns : goal.returns
returns c = ap (λ (n : ℕ). c.args.at + n) (c.unwrap_or.ensures ∙ reached c.args.text.now c.args.at _ c.first_comma.ensures)
