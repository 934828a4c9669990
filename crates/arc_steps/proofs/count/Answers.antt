-- `arc_steps::count`: the answers to its goals. Assumes nothing.
use native.Mathlib.Omega.{arith}
use Rattle.arc_numbers.specs.Arc.{count_of}
use Rattle.arc_steps.proofs.count.Goals as goal

pub returns-then-wanted-lt1 : goal.returns-then-wanted-lt1
unfolding count_of
returns-then-wanted-lt1 c = omega arith

pub returns-then-wanted-gt-MOST_ROWS : goal.returns-then-wanted-gt-MOST_ROWS
unfolding count_of
returns-then-wanted-gt-MOST_ROWS c = omega arith

pub returns-else-wanted-gt-MOST_ROWS : goal.returns-else-wanted-gt-MOST_ROWS
unfolding count_of
returns-else-wanted-gt-MOST_ROWS c = omega arith
