-- `still_curved::shows_path`: the answers to its goals. Assumes nothing.
use Rattle.still_curved.proofs.SeenLaws.{shown-is}
use Rattle.still_curved.proofs.shows_path.Goals as goal

pub returns : goal.returns
returns c = shown-is _ c.word_of-present.ensures
