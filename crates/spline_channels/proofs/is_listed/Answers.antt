-- `spline_channels::is_listed`: the answers to its goals. Assumes nothing.
use mathlib.Core.Path.{◌∙◌}
use Rattle.spline_channels.specs.Keeps.{member-listed}
use Rattle.spline_channels.proofs.is_listed.Goals as goal

pub returns : goal.returns
returns c = c.contains.ensures.value ∙ member-listed _ _
