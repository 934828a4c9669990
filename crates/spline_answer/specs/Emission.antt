-- DEFINITIONS. The group of each held block; an emission is their concatenation (section 5 of the rules). Assumes nothing.
use Rattle.std.specs.Prelude.{ℕ, List, length}
use Rattle.floats.specs.Lists.{upto}
use Rattle.spline_channels.specs.Channels.{Spline}
use Rattle.spline_places.specs.Groups.{held_group}
use Rattle.spline_answer.specs.Runs.{runs_of}

unfoldable pub spline_groups : Spline → List (List (List ℕ))
spline_groups s = let runs = runs_of s in upto (held_group s runs) (length s.blocks)
