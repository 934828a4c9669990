-- `night_ends::ends_in`: the answers to its goals. Assumes nothing.
use Rattle.night_path.specs.Comparing.{ends_same}
use Rattle.night_ends.specs.Ends.{ends_in}
use Rattle.night_ends.proofs.ends_in.Goals as goal

pub returns : goal.returns
unfolding ends_in
returns c = ends_same _ _ _ c.ends_with.ensures.value c.ends_with.ensures.bound
