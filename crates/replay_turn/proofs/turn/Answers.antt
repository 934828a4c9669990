-- `replay_turn::turn`: the answers to its goals. Assumes nothing.
use Rattle.replay_turn.specs.PlaceLaws.{turned_lies}
use Rattle.replay_turn.proofs.turn.Goals as goal

pub asked-requires : goal.asked-requires
asked-requires g c = turned_lies _ _ _ _ _ c.next_turn-t.ensures
