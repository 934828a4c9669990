-- `bspline_channels::project_three`: the answers to its goals. Assumes nothing.
use borrow.Author.Rules.{rules}
use Rattle.bspline_low.specs.Low.{top_of}
use Rattle.bspline_channels.proofs.project_three.Goals as goal

pub returns : goal.returns
unfolding top_of
returns c = search rules
