-- `row_lay::clear_cells`: the answers to its goals. Assumes nothing.
use Rattle.layout.specs.Layout.{cells}
use Rattle.row_lay.proofs.Clearing.{cleared}
use Rattle.row_lay.proofs.clear_cells.Goals as goal

pub returns : goal.returns
returns c = cleared c.args.rows.now c.args.at cells c.requires (c.fill.ensures.after (λ y e. e))
