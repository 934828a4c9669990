-- `picture_piece::put_parts`: the answers to its goals. Assumes nothing.
use native.Mathlib.Omega.{arith}
use Rattle.picture_place.specs.PlaceLaws.{millionths-short}
use Rattle.picture_piece.specs.GrewLaws.{grew}
use Rattle.picture_piece.proofs.put_parts.Goals as goal

pub returns : goal.returns
returns c = grew _ (millionths-short _ (omega arith)) c.put_millionths.ensures
