-- `still_curved::still_curved`: the answers to its goals. Assumes nothing.
use Rattle.still_curved.proofs.SeenLaws.{seen-there, seen-bare}
use Rattle.still_curved.proofs.still_curved.Goals as goal

pub returns-then-shows_path : goal.returns-then-shows_path
returns-then-shows_path c = seen-there _ _ c.motion_after-now.ensures c.shows_path.ensures c.curves.ensures c.if-shows_path.true

pub returns-else-shows_path : goal.returns-else-shows_path
returns-else-shows_path c = seen-bare _ _ c.motion_after-now.ensures c.shows_path.ensures c.if-shows_path.false
