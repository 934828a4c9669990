-- `picture_piece::put_length`: the answers to its goals. Assumes nothing.
use Rattle.picture_place.specs.PlaceLaws.{place_short}
use Rattle.picture_piece.specs.GrewLaws.{grew}
use Rattle.picture_piece.proofs.put_length.Goals as goal

pub returns : goal.returns
returns c = grew _ (place_short _) c.put_place.ensures
