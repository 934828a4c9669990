-- `curve_segments::at_stretch`: the answers to its goals. Assumes nothing.
use mathlib.Core.Path.{ap}
use Rattle.curve_segments.specs.Stretches.{in_piece}
use Rattle.curve_segments.proofs.at_stretch.Goals as goal

pub returns : goal.returns
returns c = ap (in_piece c.args.s c.args.k) c.piece-piece.ensures.0
