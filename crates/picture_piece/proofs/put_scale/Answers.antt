-- `picture_piece::put_scale`: the answers to its goals. Assumes nothing.
use native.Mathlib.Omega.{arith}
use Rattle.picture_piece.proofs.put_scale.Goals as goal

pub returns-then-scale : goal.returns-then-scale
returns-then-scale c = record { least = omega arith; most = omega arith; same = omega arith }

pub returns : goal.returns
returns c = record { least = omega arith; most = omega arith; same = omega arith }
