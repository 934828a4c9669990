-- `bspline_raise::raise_four`: the answers to its goals. Assumes nothing.
use mathlib.Core.Path.{refl}
use Rattle.bspline_raise.specs.Fours.{four_raised}
use Rattle.bspline_raise.proofs.raise_four.Goals as goal

pub returns : goal.returns
returns c = four_raised c.args.d.now c.args.i c.args.wide c.args.share c.requires refl refl refl refl
